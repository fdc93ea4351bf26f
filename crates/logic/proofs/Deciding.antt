-- What it is for rows to decide a formula.
use Rattle.std.proofs.Common.{ℕ, ◌<◌, ◌↔◌, List}
use Rattle.flow.specs.Graph.{Graph}
use Rattle.kinds.specs.Model.{Model}
use Rattle.rows.specs.declared.forest.Forest.{Forest}
use Rattle.rows.specs.declared.row.Row.{Row}
use Rattle.logic.specs.Formulas.{Formula}
use Rattle.logic.specs.Satisfied.{Satisfies}
use Rattle.logic.specs.Valuations.{Valuation, Values}
use Rattle.logic.proofs.Covering.{Shown}
use Rattle.logic.proofs.Shown.{Shows}

module _ {B : Type 0} (m : Model B) (g : Graph) where
  -- the rows show just what satisfies the formula
  abbrev pub Decides : Formula → List (Row B) → Type 0
  Decides φ rows = (s : ℕ) (v : Valuation) → s < g.states → Values m v → Satisfies m g φ s v ↔ Shown m rows s v

  -- the rows show states of the graph only
  abbrev pub Inside : List (Row B) → Type 0
  Inside rows = (s : ℕ) (v : Valuation) (f : Forest) → Values m v → Shows m rows s v f → s < g.states
