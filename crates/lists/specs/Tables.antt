-- Tables of lists: what a call on them leaves.
use Rattle.std.specs.Prelude.{ℕ, List, [], replicate, Ok, Err, Result, slice_index_or, slice_set}
use Rattle.kinds.specs.Model.{Model}
use Rattle.lists.specs.Counts.{list_count}
use Rattle.logic.specs.Adding.{add_all}
use Rattle.logic.specs.Outcomes.{Outcome, then}
use Rattle.logic.specs.declared.shortage.Shortage.{Shortage}
use Rattle.rows.specs.declared.row.Row.{Row}

-- lists, each of at most so many rows
pub record Table (R : Type 0) : Type 0 where
  pub limit : ℕ
  pub lists : List (List R)

module _ {R : Type 0} where
  -- the list of a number
  abbrev pub at : Table R → ℕ → List R
  at t i = slice_index_or t.lists i []

  -- the table with another list at that number
  abbrev pub with_list : Table R → ℕ → List R → Table R
  with_list t i rows = record { limit = t.limit; lists = slice_set t.lists i rows }

  -- every list empty
  abbrev pub no_rows : ℕ → Table R
  no_rows limit = record { limit = limit; lists = replicate list_count [] }

  -- what a call leaves: the table, unless it refused
  abbrev pub left_by : {A : Type 0} → Result A Shortage → Table R → Outcome (Table R)
  left_by (Ok a) t = Ok t
  left_by (Err e) t = Err e

-- the table with rows added to one list, or the shortage that this meets
unfoldable pub adding : {B : Type 0} → Model B → Table (Row B) → ℕ → List (Row B) → Outcome (Table (Row B))
adding m t i rs = then (add_all m t.limit (at t i) rs) (λ rows. Ok (with_list t i rows))
