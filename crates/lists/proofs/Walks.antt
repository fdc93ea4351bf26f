-- A walk that adds rows to one list of a table, as the loop of every operator does: how far it has come.
use Rattle.std.proofs.Common.{◌≡◌, ℕ, ◌<◌, List, [], ◌++◌, length, get_or, IsErrAnd, Ok, Err, Result, sym, ap, ◌∙◌, subst, arith}
use Rattle.kinds.specs.Model.{Model}
use Rattle.lists.specs.Tables.{Table, adding, at, left_by, with_list}
use Rattle.lists.proofs.Added.{adding-append, adding_but, adding_none}
use Rattle.lists.proofs.Tables.{at_with_other, length_with, with_with}
use Rattle.logic.specs.Outcomes.{Outcome, then}
use Rattle.logic.specs.declared.shortage.Shortage.{Shortage}
use Rattle.rows.specs.declared.row.Row.{Row}
use Rattle.std.proofs.lemmas.Result.{err_from_is_err_and}

-- A walk from the table t0 is to add `all` to the list dest; the table is t now, and `rest` is left to add.
pub record Walked {B : Type 0} (m : Model B) (t0 t : Table (Row B)) (dest : ℕ) (rest all : List (Row B)) : Type 0 where
  -- no other list has changed, nor the limit
  pub but : t ≡ with_list t0 dest (at t dest)
  -- the rest leads from here to where all leads from the start
  pub left : adding m t dest rest ≡ adding m t0 dest all

module _ {B : Type 0} {m : Model B} where
  module _ {t0 t : Table (Row B)} {dest : ℕ} {rest all : List (Row B)} (w : Walked m t0 t dest rest all) where
    -- another list is as it was
    pub walk_other : {j : ℕ} → (j ≡ dest → ⊥) → at t j ≡ at t0 j
    walk_other {j} other = ap (λ u. at u j) w.but ∙ at_with_other t0 (at t dest) other

    -- a row read from another list now is a row read from it then
    pub walk_read : {j : ℕ} (k : ℕ) {r : Row B} → (j ≡ dest → ⊥) → r ≡ get_or (at t j) k r → r ≡ get_or (at t0 j) k r
    walk_read {j} k {r} other read = read ∙ ap (λ rows. get_or rows k r) (walk_other other)

    -- nothing was left
    pub walk_all : rest ≡ [] → Ok t ≡ adding m t0 dest all
    walk_all none = sym (ap (adding m t dest) none ∙ adding_none m t dest) ∙ w.left

    -- nothing was to be added
    pub walk_skip : {rest' : List (Row B)} → rest ≡ rest' → Walked m t0 t dest rest' all
    walk_skip e = subst (λ rows. Walked m t0 t dest rows all) e w

    module _ (inside : dest < length t0.lists) (xs rest' : List (Row B)) (e : rest ≡ xs ++ rest') where
      still : dest < length t.lists
      still =
          let same : length t.lists ≡ length t0.lists
          = ap (λ (u : Table (Row B)). length u.lists) w.but ∙ length_with t0 dest (at t dest) in
          omega arith

      both : then (adding m t dest xs) (λ u. adding m u dest rest') ≡ adding m t0 dest all
      both = sym (ap (adding m t dest) e ∙ adding-append m t dest xs rest' still) ∙ w.left

      -- a call has added the next rows
      pub walk_more : {t' : Table (Row B)} → Ok t' ≡ adding m t dest xs → Walked m t0 t' dest rest' all
      walk_more {t'} did =
          let now = adding_but m t dest xs still did in
          record {
            but = now ∙ ap (λ u. with_list u dest (at t' dest)) w.but ∙ with_with t0 dest (at t dest) (at t' dest);
            left = ap (λ o. then o (λ u. adding m u dest rest')) did ∙ both;
          }

      -- a call that was to add them has refused
      pub walk_stop : {s : Shortage} → Err s ≡ adding m t dest xs → Err s ≡ adding m t0 dest all
      walk_stop did = ap (λ o. then o (λ u. adding m u dest rest')) did ∙ both

-- what a function leaves that passes a refusal on
pub stopped : {A B : Type 0} (r : Result A Shortage) {s : Shortage} (t : Table (Row B)) {o : Outcome (Table (Row B))}
    → IsErrAnd r (λ e. e ≡ s) → Err s ≡ o → left_by r t ≡ o
stopped r t by did = let p = err_from_is_err_and r by in rw (p.1, p.2) did
