-- Adding: a list stays as it is, or gets longer within its limit.
use Rattle.std.proofs.Common.{◌≡◌, ℕ, ◌<◌, ◌≤◌, Bool, true, false, cond, ltb, ◌⊎◌, List, [], ◌∷◌, ◌++◌, length, Ok, Err, sym, refl, subst, inl, inr, arith}
use Rattle.kinds.specs.Model.{Model}
use Rattle.rows.specs.declared.row.Row.{Row}
use Rattle.logic.specs.Adding.{add, add_all, pairing, told}
use Rattle.logic.specs.Outcomes.{Outcome}
use Rattle.logic.specs.Rounds.{round}
use Rattle.logic.specs.declared.shortage.Shortage.TheVariants.{Rows}
use Rattle.logic.proofs.Thens.{err_ok, ok_inj, then_parts}
use Rattle.std.proofs.lemmas.List.{length-append}
use Rattle.std.proofs.lemmas.Bool.{ltb-true}

-- the list is the same, or longer and within the limit
abbrev pub Grown : {A : Type 0} → ℕ → List A → List A → Type 0
Grown limit rows all = (all ≡ rows) ⊎ ((length rows < length all) × (length all ≤ limit))

module _ {B : Type 0} (m : Model B) (limit : ℕ) where
  -- one row: it is there, or there is room for it
  add_grows : (rows : List (Row B)) (r : Row B) {all : List (Row B)} → add m limit rows r ≡ Ok all
      → Grown limit rows all
  unfolding add
  add_grows rows r {all} e = step (told m rows r) (ltb (length rows) limit) refl e
    where
      step : (b c : Bool) → ltb (length rows) limit ≡ c
          → cond b (Ok rows) (cond c (Ok (rows ++ r ∷ [])) (Err Rows)) ≡ Ok all → Grown limit rows all
      step true c t f = inl (sym (ok_inj f))
      step false true t f =
          let sum = length-append rows (r ∷ []) in
          let room = ltb-true (length rows) limit t in
          subst (λ (z : List (Row B)). Grown limit rows z) (ok_inj f) (inr (omega arith, omega arith))
      step false false t f = absurd (err_ok f)

  -- rows in turn
  pub add_all_grows : (rows rs : List (Row B)) {all : List (Row B)} → add_all m limit rows rs ≡ Ok all
      → Grown limit rows all
  unfolding add_all
  add_all_grows rows [] e = inl (sym (ok_inj e))
  add_all_grows rows (r ∷ rs) {all} e =
      let a = then_parts (add m limit rows r) (λ more. add_all m limit more rs) e in
      step a.0 (add_grows rows r a.1) (add_all_grows a.0 rs a.2)
    where
      step : (more : List (Row B)) → Grown limit rows more → Grown limit more all → Grown limit rows all
      step more (inl p) b = subst (λ (z : List (Row B)). Grown limit z all) p b
      step more (inr p) (inl q) = subst (λ (z : List (Row B)). Grown limit rows z) (sym q) (inr p)
      step more (inr p) (inr q) = let l = p.0 in let k = q.0 in inr (omega arith, q.1)

  -- a round only adds
  pub round_grows : (step : List (Row B) → Outcome (List (Row B))) (ps rows : List (Row B)) {all : List (Row B)}
      → round m limit step ps rows ≡ Ok all → Grown limit rows all
  unfolding round
  round_grows step ps rows e =
      let a = then_parts (step rows) _ e in
      let b = then_parts (pairing m limit ps a.0) _ a.2 in
      add_all_grows rows b.0 b.2
