-- What a call on lists leaves: in each list, and of the rows that are lent.
use Rattle.std.specs.Prelude.{◌≡◌, ℕ, List, length, Result}
use Rattle.kinds.specs.Model.{Model}
use Rattle.lists.specs.Lent.{table_in}
use Rattle.lists.specs.Tables.{adding, left_by, with_list}
use Rattle.lists.specs.declared.lists.Lists.{Lists}
use Rattle.logic.specs.declared.shortage.Shortage.{Shortage}
use Rattle.rows.specs.declared.row.Row.{Row}

-- list i is now just these rows, and no other list has changed
pub record Puts {R : Type 0} (l l' : Lists R) (i : ℕ) (rows : List R) : Type 0 where
  pub same_rows : l'.rows.ghost_name ≡ l.rows.ghost_name
  -- as many rows are lent as were
  pub as_many : length l'.rows.now ≡ length l.rows.now
  pub puts : table_in l' ≡ with_list (table_in l) i rows

-- the rows were added to list i, in order, and no other list has changed; or a row found no room
pub record Adds {B A : Type 0} (m : Model B) (result : Result A Shortage) (l l' : Lists (Row B)) (i : ℕ)
    (rows : List (Row B)) : Type 0 where
  pub same_rows : l'.rows.ghost_name ≡ l.rows.ghost_name
  -- as many rows are lent as were, and each list may have as many as it might, after a refusal too
  pub as_many : length l'.rows.now ≡ length l.rows.now
  pub same_limit : l'.limit ≡ l.limit
  pub adds : left_by result (table_in l') ≡ adding m (table_in l) i rows
