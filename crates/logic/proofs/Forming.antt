-- Forming witnesses: the table grows at its end, and each witness has its number.
use Rattle.std.proofs.Common.{◌≡◌, ℕ, suc, ◌+◌, ◌<◌, Bool, true, false, cond, eqb, ltb, List, [], ◌∷◌, ◌++◌, length, get_or, Some, None, Ok, Err, Option, sym, refl, ap, ◌∙◌, subst, arith}
use Rattle.kinds.proofs.Truth.{holds}
use Rattle.kinds.specs.Consequences.{Allows, Consequences}
use Rattle.kinds.specs.Model.{Model}
use Rattle.rows.proofs.Members.{alike_equal}
use Rattle.rows.specs.Forests.{alike, most_witnesses}
use Rattle.rows.specs.Witnesses.{blank_witness, equal_witness}
use Rattle.rows.specs.declared.witness.Witness.{Witness}
use Rattle.logic.specs.Faithful.{witness}
use Rattle.logic.specs.Witnessing.{Formed, form, number_from, numbered}
use Rattle.logic.specs.declared.shortage.Shortage.TheVariants.{Witnesses}
use Rattle.logic.proofs.Thens.{err_ok, ok_inj}
use Rattle.std.proofs.lemmas.List.{append_assoc, append-nil, get_or_append_left, get_or_push, length-append}
use Rattle.std.proofs.lemmas.Bool.{and_parts, eqb-true}

-- the second list goes on where the first ends
abbrev pub Extends : {A : Type 0} → List A → List A → Type 0
Extends {A} us ws = (more : List A) × (ws ≡ us ++ more)

-- a list goes on from itself
pub extends_refl : {A : Type 0} (us : List A) → Extends us us
extends_refl us = ([], sym (append-nil us))

-- and from what the list before it goes on from
pub extends_trans : {A : Type 0} (us vs ws : List A) → Extends us vs → Extends vs ws → Extends us ws
extends_trans {A} us vs ws a b =
    (a.0 ++ b.0, b.1 ∙ ap (λ (y : List A). y ++ b.0) a.1 ∙ append_assoc us a.0 b.0)

-- what stands in the first list stands in the second
pub extends_at : {A : Type 0} (us ws : List A) (d : A) (i : ℕ) → Extends us ws → i < length us
    → (get_or ws i d ≡ get_or us i d) × (i < length ws)
extends_at {A} us ws d i x l =
    let longer : length ws ≡ length (us ++ x.0) = ap length x.1 in
    let sum = length-append us x.0 in
    (ap (λ (y : List A). get_or y i d) x.1 ∙ get_or_append_left us x.0 d i l, omega arith)

module _ {B : Type 0} (m : Model B) (laws : Consequences m) where
  -- in the table the number i is that of a witness equal to w
  pub record Numbers (us : List (Witness B)) (w : Witness B) (i : ℕ) : Type 0 where
    pub below : i < length us
    pub state : (witness m us i).state ≡ w.state
    pub variable : (witness m us i).variable ≡ w.variable
    pub forest : (witness m us i).forest ≡ w.forest
    pub to : (n : ℕ) → Allows m w.found n → Allows m (witness m us i).found n
    pub back : (n : ℕ) → Allows m (witness m us i).found n → Allows m w.found n

  -- a witness that tests equal allows the same values and has the same forest
  numbers_equal : (us : List (Witness B)) (w : Witness B) (i : ℕ) → i < length us
      → equal_witness m (witness m us i) w ≡ true → Numbers us w i
  unfolding equal_witness
  numbers_equal us w i l e =
      let u = witness m us i in
      let a = and_parts (eqb u.state w.state) _ e in
      let b = and_parts (eqb u.variable w.variable) _ a.1 in
      let c = and_parts (alike u.forest w.forest) (m.same u.found w.found) b.1 in
      let same = (laws.of_same u.found w.found).0 (holds c.1) in
      record {
        below = l;
        state = eqb-true u.state w.state a.0;
        variable = eqb-true u.variable w.variable b.0;
        forest = alike_equal u.forest w.forest c.0;
        to = λ n. (same n).1;
        back = λ n. (same n).0;
      }

  -- a number stays as the table grows
  pub numbers_more : (us ws : List (Witness B)) (w : Witness B) (i : ℕ) → Extends us ws → Numbers us w i
      → Numbers ws w i
  numbers_more us ws w i x k =
      let a = extends_at us ws (blank_witness m) i x k.below in
      let at = a.0 in
      record {
        below = a.1;
        state = ap (λ (u : Witness B). u.state) at ∙ k.state;
        variable = ap (λ (u : Witness B). u.variable) at ∙ k.variable;
        forest = ap (λ (u : Witness B). u.forest) at ∙ k.forest;
        to = λ n p. subst (λ (u : Witness B). Allows m u.found n) (sym at) (k.to n p);
        back = λ n p. k.back n (subst (λ (u : Witness B). Allows m u.found n) at p);
      }

  -- the number that is found is that of an equal witness
  found : (k : ℕ) (us : List (Witness B)) (w : Witness B) {i : ℕ} → number_from m k us w ≡ Some i
      → (j : ℕ) × (i ≡ k + j) × (j < length us) × (equal_witness m (witness m us j) w ≡ true)
  found k [] w e = cc
  found k (u ∷ us) w {i} e = step (equal_witness m u w) refl (λ f. found (k + 1) us w f) e
    where
      step : (b : Bool) → equal_witness m u w ≡ b
          → (number_from m (k + 1) us w ≡ Some i
          → (j : ℕ) × (i ≡ k + 1 + j) × (j < length us) × (equal_witness m (witness m us j) w ≡ true))
          → cond b (Some k) (number_from m (k + 1) us w) ≡ Some i
          → (j : ℕ) × (i ≡ k + j) × (j < length (u ∷ us)) × (equal_witness m (witness m (u ∷ us) j) w ≡ true)
      step true q rec f = let here : k ≡ i = cc in (0, omega arith, omega arith, q)
      step false q rec f =
          let r = rec f in
          let p = r.1 in
          let l = r.2 in
          (suc r.0, omega arith, omega arith, r.3)

  -- a witness formed has its number in the table that is left, which goes on where the table was
  pub form_numbers : (us : List (Witness B)) (w : Witness B) {f : Formed B} → form m us w ≡ Ok f
      → Extends us f.witnesses × Numbers f.witnesses w f.number
  unfolding form
  form_numbers us w {f} e = step (number_from m 0 us w) refl e
    where
      step : (o : Option ℕ) → number_from m 0 us w ≡ o → numbered m us w o ≡ Ok f
          → Extends us f.witnesses × Numbers f.witnesses w f.number
      step (Some i) q g =
          let r = found 0 us w q in
          let p = r.1 in
          let same : r.0 ≡ i = omega arith in
          subst (λ (z : Formed B). Extends us z.witnesses × Numbers z.witnesses w z.number) (ok_inj g)
          (extends_refl us, subst (λ (j : ℕ). Numbers us w j) same (numbers_equal us w r.0 r.2 r.3))
      step None q g = pushed (ltb (length us) most_witnesses) g
        where
          at_end : Numbers (us ++ w ∷ []) w (length us)
          at_end =
              let sum = length-append us (w ∷ []) in
              let at = get_or_push us w (blank_witness m) (length us) refl in
              record {
                below = omega arith;
                state = ap (λ (u : Witness B). u.state) at;
                variable = ap (λ (u : Witness B). u.variable) at;
                forest = ap (λ (u : Witness B). u.forest) at;
                to = λ n p. subst (λ (u : Witness B). Allows m u.found n) (sym at) p;
                back = λ n p. subst (λ (u : Witness B). Allows m u.found n) at p;
              }

          pushed : (b : Bool)
              → cond b (Ok (record { witnesses = us ++ w ∷ []; number = length us })) (Err Witnesses) ≡ Ok f
              → Extends us f.witnesses × Numbers f.witnesses w f.number
          pushed true g =
              subst (λ (z : Formed B). Extends us z.witnesses × Numbers z.witnesses w z.number) (ok_inj g)
              ((w ∷ [], refl), at_end)
          pushed false g = absurd (err_ok g)
