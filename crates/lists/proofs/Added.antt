-- Rows added to a list, and to a list of a table: in one go or in two, and one row alone.
use Rattle.std.proofs.Common.{◌≡◌, ℕ, ◌<◌, ◌≤◌, true, false, List, [], ◌∷◌, ◌++◌, length, Ok, Err, sym, refl, ap, ◌∙◌}
use Rattle.kinds.specs.Model.{Model}
use Rattle.lists.specs.Tables.{Table, adding, at, with_list}
use Rattle.lists.proofs.Tables.{at_with_same, with_at, with_with}
use Rattle.logic.proofs.Thens.{err_ok, ok_inj}
use Rattle.logic.specs.Adding.{add, add_all, told}
use Rattle.logic.specs.Outcomes.{Outcome, then}
use Rattle.logic.specs.declared.shortage.Shortage.{Shortage}
use Rattle.logic.specs.declared.shortage.Shortage.TheVariants.{Rows}
use Rattle.rows.specs.declared.row.Row.{Row}
use Rattle.std.proofs.lemmas.Bool.{le-ltb, lt-ltb}

module _ {B : Type 0} (m : Model B) where
  -- rows added in two goes
  pub add_all-append : (limit : ℕ) (rows xs ys : List (Row B))
      → add_all m limit rows (xs ++ ys) ≡ then (add_all m limit rows xs) (λ more. add_all m limit more ys)
  unfolding add_all
  add_all-append limit rows [] ys = refl
  add_all-append limit rows (x ∷ xs) ys = step (add m limit rows x) (λ more. add_all-append limit more xs ys)
    where
      step : (o : Outcome (List (Row B)))
          → ((more : List (Row B)) → add_all m limit more (xs ++ ys)
          ≡ then (add_all m limit more xs) (λ all. add_all m limit all ys))
          → then o (λ more. add_all m limit more (xs ++ ys))
          ≡ then (then o (λ more. add_all m limit more xs)) (λ all. add_all m limit all ys)
      step (Ok more) h = h more
      step (Err e) h = refl

  module _ (t : Table (Row B)) (i : ℕ) where
    -- nothing added
    pub adding_none : adding m t i [] ≡ Ok t
    unfolding adding add_all
    adding_none = ap Ok (with_at t i)

    -- the table that is left differs in its list alone
    pub adding_but : {t' : Table (Row B)} (rs : List (Row B)) → i < length t.lists → Ok t' ≡ adding m t i rs
        → t' ≡ with_list t i (at t' i)
    unfolding adding
    adding_but {t'} rs inside did = step (add_all m t.limit (at t i) rs) did
      where
        step : (o : Outcome (List (Row B))) → Ok t' ≡ then o (λ rows. Ok (with_list t i rows))
            → t' ≡ with_list t i (at t' i)
        step (Ok rows) e =
            let is : t' ≡ with_list t i rows = ok_inj e in
            is ∙ ap (with_list t i) (sym (ap (λ u. at u i) is ∙ at_with_same t rows inside))
        step (Err x) e = absurd (err_ok (sym e))

    -- rows added in two goes
    pub adding-append : (xs ys : List (Row B)) → i < length t.lists
        → adding m t i (xs ++ ys) ≡ then (adding m t i xs) (λ u. adding m u i ys)
    unfolding adding
    adding-append xs ys inside =
        ap (λ o. then o (λ rows. Ok (with_list t i rows))) (add_all-append t.limit (at t i) xs ys)
        ∙ step (add_all m t.limit (at t i) xs)
      where
        again : (o : Outcome (List (Row B))) (rows : List (Row B))
            → then o (λ all. Ok (with_list t i all)) ≡ then o (λ all. Ok (with_list (with_list t i rows) i all))
        again (Ok all) rows = ap Ok (sym (with_with t i rows all))
        again (Err e) rows = refl

        step : (o : Outcome (List (Row B)))
            → then (then o (λ more. add_all m t.limit more ys)) (λ rows. Ok (with_list t i rows))
            ≡ then (then o (λ rows. Ok (with_list t i rows))) (λ u. adding m u i ys)
        step (Ok rows) =
            again (add_all m t.limit rows ys) rows
            ∙ ap (λ more. then (add_all m t.limit more ys) (λ all. Ok (with_list (with_list t i rows) i all)))
            (sym (at_with_same t rows inside))
        step (Err e) = refl

    -- the list that is left
    pub adding-at : {t' : Table (Row B)} (rs : List (Row B)) → i < length t.lists → Ok t' ≡ adding m t i rs
        → add_all m t.limit (at t i) rs ≡ Ok (at t' i)
    unfolding adding
    adding-at {t'} rs inside did = step (add_all m t.limit (at t i) rs) did
      where
        step : (o : Outcome (List (Row B))) → Ok t' ≡ then o (λ rows. Ok (with_list t i rows)) → o ≡ Ok (at t' i)
        step (Ok rows) e = ap Ok (sym (ap (λ u. at u i) (ok_inj e) ∙ at_with_same t rows inside))
        step (Err x) e = absurd (err_ok (sym e))

    -- the list has no room for them
    pub adding_short : {s : Shortage} (rs : List (Row B)) → Err s ≡ adding m t i rs
        → add_all m t.limit (at t i) rs ≡ Err s
    unfolding adding
    adding_short {s} rs did = step (add_all m t.limit (at t i) rs) did
      where
        step : (o : Outcome (List (Row B))) → Err s ≡ then o (λ rows. Ok (with_list t i rows)) → o ≡ Err s
        step (Ok rows) e = absurd (err_ok e)
        step (Err x) e = cc

    module _ (r : Row B) where
      -- a row that need not be added
      pub adding-told : told m (at t i) r ≡ true → adding m t i (r ∷ []) ≡ Ok t
      unfolding adding add_all add
      adding-told e = rw e (ap Ok (with_at t i))

      -- a row that is new to a list with room
      pub adding_new : told m (at t i) r ≡ false → length (at t i) < t.limit
          → adding m t i (r ∷ []) ≡ Ok (with_list t i (at t i ++ r ∷ []))
      unfolding adding add_all add
      adding_new e room = rw (e, lt-ltb (length (at t i)) t.limit room)

      -- a row that is new to a full list
      pub adding_full : told m (at t i) r ≡ false → t.limit ≤ length (at t i) → adding m t i (r ∷ []) ≡ Err Rows
      unfolding adding add_all add
      adding_full e full = rw (e, le-ltb (length (at t i)) t.limit full)
