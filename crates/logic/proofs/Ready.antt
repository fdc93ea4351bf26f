-- The list of a line is ready when it is right for the formula of the line, and sound. A line is worked when its list
-- is ready, and witnesses still name earlier ones.
use Rattle.std.proofs.Common.{◌≡◌, ℕ, List, [], ◌∷◌, ◌++◌, length}
use Rattle.flow.specs.Graph.{Graph}
use Rattle.flow.specs.Line.{Line}
use Rattle.kinds.specs.Consequences.{Consequences}
use Rattle.kinds.specs.Model.{Model}
use Rattle.rows.specs.declared.row.Row.{Row}
use Rattle.rows.specs.declared.witness.Witness.{Witness}
use Rattle.logic.specs.Formulas.{Formula, read}
use Rattle.logic.specs.Promises.{NameableLabels}
use Rattle.logic.specs.Working.{Work}
use Rattle.logic.proofs.Grounded.{Grounded}
use Rattle.logic.proofs.Right.{Right}
use Rattle.logic.proofs.Sound.{SoundRows}

module _ {B : Type 0} (m : Model B) (laws : Consequences m) (g : Graph) (limit : ℕ)
    (nameable : NameableLabels m g) where
  -- the list of a line is right for its formula, and sound
  pub record Ready (ws : List (Witness B)) (n : ℕ) (φ : Formula) (rows : List (Row B)) : Type 1 where
    pub is_right : Right m g ws φ rows
    pub is_sound : SoundRows m laws n rows

  -- a line is worked: its list comes after those that were there, and witnesses name earlier ones still
  pub record Worked (w next : Work B) (fs : List Formula) (l : Line) (ws : List (Witness B)) : Type 1 where
    pub rows : List (Row B)
    pub lists : next.lists ≡ w.lists ++ rows ∷ []
    pub ready : Ready ws (length next.witnesses) (read fs l) rows
    pub grounded : Grounded m next.witnesses
