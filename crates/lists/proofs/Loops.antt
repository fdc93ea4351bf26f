-- A loop over a list zs that adds the rows f z for each z of zs, in order, to one list of lent lists.
use Rattle.std.proofs.Common.{◌≡◌, ℕ, ◌+◌, ◌<◌, ◌≤◌, List, [], ◌++◌, length, get_or, drop, Ok, Err, Result, IsErrAnd, ap, ◌∙◌}
use Rattle.kinds.specs.Model.{Model}
use Rattle.lists.specs.Changes.{Adds}
use Rattle.lists.specs.Counts.{list_count}
use Rattle.lists.specs.Lent.{table_in}
use Rattle.lists.specs.Tables.{at}
use Rattle.lists.specs.declared.lists.Lists.{Lists}
use Rattle.lists.proofs.Lent.{table_has}
use Rattle.lists.proofs.Walks.{Walked, stopped, walk_all, walk_more, walk_other, walk_read, walk_skip, walk_stop}
use Rattle.logic.specs.declared.shortage.Shortage.{Shortage}
use Rattle.rows.specs.declared.row.Row.{Row}
use Rattle.std.proofs.lemmas.List.{drop_all, drop_more}
use Rattle.std.specs.List.{flat_map}

-- what is left to add at the index i
abbrev pub rest_from : {A Z : Type 0} → (Z → List A) → List Z → ℕ → List A
rest_from f zs i = flat_map f (drop i zs)

module _ {A Z : Type 0} (f : Z → List A) (zs : List Z) (i : ℕ) where
  -- nothing at the end
  pub rest_all : length zs ≤ i → rest_from f zs i ≡ []
  rest_all past = rw (drop_all i zs past)

  -- what the i-th gives, and then the rest
  pub rest_more : (z : Z) → i < length zs → z ≡ get_or zs i z → rest_from f zs i ≡ f z ++ rest_from f zs (i + 1)
  rest_more z below read = rw (drop_more zs i z below, ← read)

-- A loop that began with l0 is at the index i, with l.
pub record Looped {B Z : Type 0} (m : Model B) (l0 l : Lists (Row B)) (dest : ℕ) (f : Z → List (Row B)) (zs : List Z)
    (i : ℕ) : Type 0 where
  pub same_rows : l.rows.ghost_name ≡ l0.rows.ghost_name
  pub as_many : length l.rows.now ≡ length l0.rows.now
  pub same_limit : l.limit ≡ l0.limit
  pub walk : Walked m (table_in l0) (table_in l) dest (rest_from f zs i) (flat_map f zs)

module _ {B Z : Type 0} {m : Model B} {l0 : Lists (Row B)} {dest : ℕ} {f : Z → List (Row B)} {zs : List Z} where
  module _ {l : Lists (Row B)} {i : ℕ} (loop : Looped m l0 l dest f zs i) where
    -- another list is as it was
    pub loop_other : {j : ℕ} → (j ≡ dest → ⊥) → at (table_in l) j ≡ at (table_in l0) j
    loop_other other = walk_other loop.walk other

    -- a row read from another list now is a row read from it then
    pub loop_read : {j : ℕ} {r : Row B} (k : ℕ) → (j ≡ dest → ⊥) → r ≡ get_or (at (table_in l) j) k r
        → r ≡ get_or (at (table_in l0) j) k r
    loop_read k other read = walk_read loop.walk k other read

    -- the loop is at its end
    pub loop_all : length zs ≤ i → Adds {A = Unit {0}} m (Ok tt) l0 l dest (flat_map f zs)
    loop_all past =
        record {
          same_rows = loop.same_rows;
          as_many = loop.as_many;
          same_limit = loop.same_limit;
          adds = walk_all loop.walk (rest_all f zs i past);
        }

    module _ {z : Z} {xs : List (Row B)} (below : i < length zs) (read : z ≡ get_or zs i z) (gives : f z ≡ xs)
        (known : dest < list_count) where
      next : rest_from f zs i ≡ xs ++ rest_from f zs (i + 1)
      next = rest_more f zs i z below read ∙ ap (λ rs. rs ++ rest_from f zs (i + 1)) gives

      -- a call has added what the i-th gives
      pub loop_more : {A : Type 0} {a : A} {l' : Lists (Row B)} → Adds m (Ok a) l l' dest xs → Looped m l0 l' dest f zs (i + 1)
      loop_more did =
          record {
            same_rows = did.same_rows ∙ loop.same_rows;
            as_many = did.as_many ∙ loop.as_many;
            same_limit = did.same_limit ∙ loop.same_limit;
            walk = walk_more loop.walk (table_has l0 known) xs (rest_from f zs (i + 1)) next did.adds;
          }

      -- a call that was to add it has refused, and that is passed on
      pub loop_stop : {A C : Type 0} {s : Shortage} {l' : Lists (Row B)} (r : Result C Shortage) → IsErrAnd r (λ e. e ≡ s)
          → Adds {A = A} m (Err s) l l' dest xs → Adds m r l0 l' dest (flat_map f zs)
      loop_stop r by did =
          record {
            same_rows = did.same_rows ∙ loop.same_rows;
            as_many = did.as_many ∙ loop.as_many;
            same_limit = did.same_limit ∙ loop.same_limit;
            adds = stopped r _ by (walk_stop loop.walk (table_has l0 known) xs (rest_from f zs (i + 1)) next did.adds);
          }

    -- the i-th gives nothing
    pub loop_skip : {z : Z} → i < length zs → z ≡ get_or zs i z → f z ≡ [] → Looped m l0 l dest f zs (i + 1)
    loop_skip {z} below read none =
        record {
          same_rows = loop.same_rows;
          as_many = loop.as_many;
          same_limit = loop.same_limit;
          walk = walk_skip loop.walk (rest_more f zs i z below read ∙ ap (λ rs. rs ++ rest_from f zs (i + 1)) none);
        }
