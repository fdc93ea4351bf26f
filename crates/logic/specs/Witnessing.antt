-- Witnesses, numbered as they are first formed, and the rows of `Q`.
use Rattle.std.specs.Prelude.{ℕ, cond, List, [], ◌∷◌, ◌++◌, length, Some, None, Ok, Err, Option, nat_lt, slice_set}
use Rattle.std.specs.List.{position_from}
use Rattle.kinds.specs.Model.{Model}
use Rattle.rows.specs.Forests.{most_witnesses, single}
use Rattle.rows.specs.Rows.{box}
use Rattle.rows.specs.Witnesses.{equal_witness}
use Rattle.rows.specs.declared.row.Row.{Row}
use Rattle.rows.specs.declared.witness.Witness.{Witness}
use Rattle.logic.specs.Adding.{add}
use Rattle.logic.specs.Outcomes.{Outcome, then}
use Rattle.logic.specs.declared.shortage.Shortage.TheVariants.{Witnesses}

-- witnesses, and the number of one of them
pub record Formed (B : Type 0) : Type 0 where
  pub witnesses : List (Witness B)
  pub number : ℕ

-- rows, and the witnesses that were formed for them
pub record Quantified (B : Type 0) : Type 0 where
  pub rows : List (Row B)
  pub witnesses : List (Witness B)

module _ {B : Type 0} (m : Model B) where
  -- the witness of a row for a variable
  abbrev pub witness_of : ℕ → Row B → Witness B
  witness_of x r = record { state = r.state; variable = x; found = box m r x; forest = r.forest }

  -- the row with any value for the variable, and the one witness of this number
  abbrev pub freed : ℕ → Row B → ℕ → Row B
  freed x r i = record { state = r.state; boxes = slice_set r.boxes x m.all; forest = single i }

  -- the number of the first witness that is equal to w, counted from i
  abbrev pub number_from : ℕ → List (Witness B) → Witness B → Option ℕ
  number_from i us w = position_from (λ u. equal_witness m u w) i us

  -- an equal witness keeps its number, and any other gets the next; one too many finds no room
  abbrev pub numbered : List (Witness B) → Witness B → Option ℕ → Outcome (Formed B)
  numbered us w (Some i) = Ok (record { witnesses = us; number = i })
  numbered us w None =
      cond (nat_lt (length us) most_witnesses)
      (Ok (record { witnesses = us ++ w ∷ []; number = length us }))
      (Err Witnesses)

  unfoldable pub form : List (Witness B) → Witness B → Outcome (Formed B)
  form us w = numbered us w (number_from 0 us w)

  module _ (limit : ℕ) where
    -- each row in turn: its witness is formed, and then the row that is freed is added
    abbrev pub exists_from : ℕ → List (Witness B) → List (Row B) → List (Row B) → Outcome (Quantified B)
    exists_from x us rows [] = Ok (record { rows = rows; witnesses = us })
    exists_from x us rows (p ∷ ps) =
        then (form us (witness_of x p)) (λ f.
        then (add m limit rows (freed x p f.number)) (λ more. exists_from x f.witnesses more ps))

    -- `Q`
    unfoldable pub of_exists : ℕ → List (Witness B) → List (Row B) → Outcome (Quantified B)
    of_exists x us ps = exists_from x us [] ps
