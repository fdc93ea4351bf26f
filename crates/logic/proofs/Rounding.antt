-- Rounds computed: an until gets as many rounds as its list can have rows, and one more. Rounds come to what is
-- computed, and only to that.
use Rattle.std.proofs.Common.{◌≡◌, ℕ, zero, suc, ◌+◌, ◌<◌, Bool, true, false, eqb, List, length, Ok, Err, sym, refl, ap, ◌∙◌, subst, inl, inr, arith}
use Rattle.rows.specs.declared.row.Row.{Row}
use Rattle.logic.specs.Outcomes.{Outcome, then}
use Rattle.logic.specs.Rounds.{Rounds, Settled, last, more, one_more, stops}
use Rattle.logic.proofs.Growth.{Grown}
use Rattle.std.proofs.lemmas.Bool.{eq-eqb, eqb-true, false_from_ne_true}

module _ {B : Type 0} (turn : List (Row B) → Outcome (List (Row B))) where
  -- a round that added nothing was the last; else there are more
  abbrev either_way : List (Row B) → Bool → (Unit {0} → Outcome (Settled B)) → Outcome (Settled B)
  either_way rows true further = Ok (record { rows = rows; rounds = 1 })
  either_way rows false further = one_more (further tt)

  -- at most so many rounds, and one
  unfoldable pub settle : ℕ → List (Row B) → Outcome (Settled B)
  settle zero rows = then (turn rows) (λ all. Ok (record { rows = all; rounds = 1 }))
  settle (suc k) rows =
      then (turn rows) (λ all. either_way all (eqb (length all) (length rows)) (λ _. settle k all))

  module _ (limit : ℕ) (grows : (rows all : List (Row B)) → turn rows ≡ Ok all → Grown limit rows all) where
    -- a list that got longer is told from what it was by its length
    longer_differs : (rows all : List (Row B)) → length rows < length all → eqb (length all) (length rows) ≡ false
    longer_differs rows all l =
        false_from_ne_true (eqb (length all) (length rows)) (λ t. let e = eqb-true (length all) (length rows) t in omega arith)

    -- rounds come to what is computed
    pub settles : (k : ℕ) (rows : List (Row B)) → limit < k + length rows → Rounds turn rows (settle k rows)
    unfolding settle
    settles zero rows l = step (turn rows) refl
      where
        step : (o : Outcome (List (Row B))) → turn rows ≡ o
            → Rounds turn rows (then o (λ all. Ok (record { rows = all; rounds = 1 })))
        step (Err e) q = stops q
        step (Ok all) q = same (grows rows all q)
          where
            same : Grown limit rows all → Rounds turn rows (Ok (record { rows = all; rounds = 1 }))
            same (inl p) =
                subst (λ (z : List (Row B)). Rounds turn rows (Ok (record { rows = z; rounds = 1 }))) (sym p)
                (last (q ∙ ap Ok p))
            same (inr p) = let a = p.0 in let b = p.1 in absurd (omega arith)
    settles (suc k) rows l = step (turn rows) refl (λ all h. settles k all h)
      where
        step : (o : Outcome (List (Row B))) → turn rows ≡ o
            → ((all : List (Row B)) → limit < k + length all → Rounds turn all (settle k all))
            → Rounds turn rows
            (then o (λ all. either_way all (eqb (length all) (length rows)) (λ _. settle k all)))
        step (Err e) q rec = stops q
        step (Ok all) q rec = same (grows rows all q)
          where
            same : Grown limit rows all
                → Rounds turn rows (either_way all (eqb (length all) (length rows)) (λ _. settle k all))
            same (inl p) =
                let t = eq-eqb (length all) (length rows) (ap length p) in
                subst (λ (b : Bool). Rounds turn rows (either_way all b (λ _. settle k all))) (sym t)
                (subst (λ (z : List (Row B)). Rounds turn rows (Ok (record { rows = z; rounds = 1 }))) (sym p)
                (last (q ∙ ap Ok p)))
            same (inr p) =
                let a = p.0 in
                subst (λ (b : Bool). Rounds turn rows (either_way all b (λ _. settle k all)))
                (sym (longer_differs rows all a)) (more q a (rec all (omega arith)))

    -- and to nothing else
    pub settles_only : {rows : List (Row B)} {out : Outcome (Settled B)} → Rounds turn rows out → (k : ℕ)
        → limit < k + length rows → out ≡ settle k rows
    unfolding settle
    settles_only (stops {rows = rows} {e = e} q) zero l =
        ap (λ (o : Outcome (List (Row B))). then o (λ all. Ok (record { rows = all; rounds = 1 }))) (sym q)
    settles_only (stops {rows = rows} {e = e} q) (suc k) l =
        ap (λ (o : Outcome (List (Row B))).
        then o (λ all. either_way all (eqb (length all) (length rows)) (λ _. settle k all))) (sym q)
    settles_only (last {rows = rows} q) zero l =
        ap (λ (o : Outcome (List (Row B))). then o (λ all. Ok (record { rows = all; rounds = 1 }))) (sym q)
    settles_only (last {rows = rows} q) (suc k) l =
        ap (λ (b : Bool). either_way rows b (λ _. settle k rows)) (sym (eq-eqb (length rows) (length rows) refl))
        ∙ ap (λ (o : Outcome (List (Row B))).
        then o (λ all. either_way all (eqb (length all) (length rows)) (λ _. settle k all))) (sym q)
    settles_only (more {rows = rows} {longer = longer} q a rest) zero l = absurd (step (grows rows longer q))
      where
        step : Grown limit rows longer → ⊥
        step (inl p) = let same = ap length p in omega arith
        step (inr p) = let b = p.1 in omega arith
    settles_only (more {rows = rows} {longer = longer} {out = out} q a rest) (suc k) l =
        ap one_more (settles_only rest k (omega arith))
        ∙ ap (λ (b : Bool). either_way longer b (λ _. settle k longer))
        (sym (longer_differs rows longer a))
        ∙ ap (λ (o : Outcome (List (Row B))).
        then o (λ all. either_way all (eqb (length all) (length rows)) (λ _. settle k all))) (sym q)
