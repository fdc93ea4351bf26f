-- A table after one of its lists has changed.
use Rattle.std.proofs.Common.{◌≡◌, ℕ, ◌<◌, List, [], length, ap}
use Rattle.lists.specs.Tables.{Table, at, with_list}
use Rattle.std.proofs.lemmas.List.{get_or-set_other, get_or-set_same, length-set, set-get_or, set-set}

module _ {R : Type 0} (t : Table R) where
  abbrev of : List (List R) → Table R
  of lists = record { limit = t.limit; lists = lists }

  -- the list that was put is there
  pub at_with_same : {i : ℕ} (rows : List R) → i < length t.lists → at (with_list t i rows) i ≡ rows
  at_with_same {i} rows inside = get_or-set_same t.lists i rows [] inside

  -- the others are as they were
  pub at_with_other : {i j : ℕ} (rows : List R) → (j ≡ i → ⊥) → at (with_list t i rows) j ≡ at t j
  at_with_other {i} {j} rows other = get_or-set_other t.lists i j rows [] other

  -- of two lists put at one number the later stays
  pub with_with : (i : ℕ) (rows more : List R) → with_list (with_list t i rows) i more ≡ with_list t i more
  with_with i rows more = ap of (set-set t.lists i rows more)

  -- a list put where it is changes nothing
  pub with_at : (i : ℕ) → with_list t i (at t i) ≡ t
  with_at i = ap of (set-get_or t.lists i [])

  -- there are as many lists as there were
  pub length_with : (i : ℕ) (rows : List R) → length (with_list t i rows).lists ≡ length t.lists
  length_with i rows = length-set t.lists i rows
