-- An iterator that was run to its end, from the calls of `next` that gave its items.
use Rattle.std.proofs.Common.{◌≡◌, ℕ, List, [], ◌∷◌, Some, None, Option, true, map-id, sym, refl, ap, subst, ◌∙◌}
use Rattle.std.proofs.iter.runs.Made.{run, to_end, took}
use Rattle.std.proofs.lemmas.Iterator.{YieldsList, items_from_drains}
use Rattle.std.specs.Iterator.{Yields, DrainsIf}
use Rattle.std.specs.Iterator.Runs.{Run, WholeRun}
use Rattle.pages.specs.Pages.{Prints, add}
use Rattle.pages.specs.Spaced.{spaced}

module _ {S A : Type 0} (steps : S → Option A → S → Type 0) (s : S) (P : List A → Type 0) where
  -- it gave nothing
  pub ran_empty : {u : S} → steps s None u → P [] → WholeRun steps s (λ p. P p.items)
  ran_empty {u} end h = (run steps s [] true (to_end steps s [] (u, (s, refl, end))), refl, refl, h)

  -- it gave a first item, and what is left of it gave the others
  pub ran_on :
      {x : A} {t t' u v : S} {xs : List A}
      → steps s (Some x) t → t ≡ t' → Yields steps t' xs u → steps u None v → P (x ∷ xs)
      → WholeRun steps s (λ p. P p.items)
  ran_on {x} {t} {t'} {u} {v} {xs} first same others end h =
      let all : Yields steps s (x ∷ xs) u = (t', subst (steps s (Some x)) same first, others) in
      (run steps s (x ∷ xs) true (to_end steps s (x ∷ xs) (v, (u, all, end))), refl, refl, h)

-- an iterator that was run to its end gave the list that it gives
pub whole_items :
    {S A : Type 0} {steps : S → Option A → S → Type 0} {s : S} {all : List A} (p : Run steps)
    → p.from ≡ s → p.whole ≡ true → YieldsList steps (λ x. x) s all → p.items ≡ all
whole_items {steps = steps} {s = s} p from whole gives =
    let t = took p in
    let drained : DrainsIf steps (Unit {0}) s p.items =
    (t.0, subst (λ k. Yields steps k p.items t.0) from t.1, λ _. t.2 whole) in
    sym (map-id p.items) ∙ items_from_drains p.items drained gives

-- where the items of a whole run are printed, the list that the iterator gives is
pub spaced_over :
    {S : Type 0} {steps : S → Option ℕ → S → Type 0} {s : S} {all : List ℕ} (o q : Option (List ℕ))
    → WholeRun steps s (λ p. Prints o (spaced p.items) q) → YieldsList steps (λ x. x) s all → q ≡ add o (spaced all)
spaced_over o q w gives = w.3 ∙ ap (λ ns. add o (spaced ns)) (whole_items w.0 w.1 w.2 gives)
