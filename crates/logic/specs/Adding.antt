-- Lists of rows: how rows are added to a list, and how two lists are paired.
use Rattle.std.specs.Prelude.{ℕ, Bool, cond, List, [], ◌∷◌, ◌++◌, length, Ok, Err, nat_lt}
use Rattle.kinds.specs.Model.{Model}
use Rattle.rows.specs.Rows.{equal, join}
use Rattle.rows.specs.declared.row.Row.{Row}
use Rattle.logic.specs.Outcomes.{Outcome, then}
use Rattle.logic.specs.declared.shortage.Shortage.TheVariants.{Rows}
use Rattle.std.specs.List.{flat_map, list_any}
use Rattle.std.specs.Option.{option_to_list}

module _ {B : Type 0} (m : Model B) where
  -- a row need not be added to the list: an equal one is there
  unfoldable pub told : List (Row B) → Row B → Bool
  told rows r = list_any (λ q. equal m q r) rows

  -- each row of the first list joined with each of the second, in order, where they join
  unfoldable pub pairs : List (Row B) → List (Row B) → List (Row B)
  pairs ps qs = flat_map (λ p. flat_map (λ q. option_to_list (join m p q)) qs) ps

  -- lists have at most so many rows
  module _ (limit : ℕ) where
    -- the list with a row added, unless it need not be; a row that is new to a full list finds no room
    unfoldable pub add : List (Row B) → Row B → Outcome (List (Row B))
    add rows r = cond (told rows r) (Ok rows) (cond (nat_lt (length rows) limit) (Ok (rows ++ r ∷ [])) (Err Rows))

    -- the list with each of several rows added, in order
    unfoldable pub add_all : List (Row B) → List (Row B) → Outcome (List (Row B))
    add_all rows [] = Ok rows
    add_all rows (r ∷ rs) = then (add rows r) (λ more. add_all more rs)

    -- the pairing of two lists, as a list
    unfoldable pub pairing : List (Row B) → List (Row B) → Outcome (List (Row B))
    pairing ps qs = add_all [] (pairs ps qs)
