-- Witnesses as values: blank ones and equal ones.
use Rattle.std.specs.Prelude.{Bool, ◌&&◌, ◌==◌}
use Rattle.kinds.specs.Model.{Model}
use Rattle.rows.specs.Forests.{alike, none}
use Rattle.rows.specs.declared.witness.Witness.{Witness}

module _ {B : Type 0} (m : Model B) where
  -- the blank witness: state 0, variable 0, any value, and no witnesses below it
  unfoldable pub blank_witness : Witness B
  blank_witness = record { state = 0; variable = 0; found = m.all; forest = none }

  -- equal witnesses: boxes same, all else equal
  unfoldable pub equal_witness : Witness B → Witness B → Bool
  equal_witness w u =
      (w.state == u.state)
      && (w.variable == u.variable && (alike w.forest u.forest && m.same w.found u.found))
