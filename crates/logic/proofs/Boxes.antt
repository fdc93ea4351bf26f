-- What the boxes of a row allow once they are met, set, named and left out.
use Rattle.std.proofs.Common.{◌≡◌, ℕ, zero, suc, ◌<◌, ◌≤◌, Bool, true, false, cond, T, eqb, List, [], ◌∷◌, length, get_or, set, replicate, Some, None, Option, sym, refl, ap, ◌∙◌, subst, arith}
use native.Mathlib.Decide.{ℕ_discrete, dec_lt}
use Rattle.kinds.proofs.Truth.{holds}
use Rattle.kinds.specs.Consequences.{Allows, Consequences, Value}
use Rattle.kinds.specs.Model.{Model}
use Rattle.rows.specs.Rows.{in_front, meets, same_boxes}
use Rattle.logic.specs.Valuations.{Valuation, Values, put}
use Rattle.std.proofs.lemmas.List.{get_or_past, get_or-set_other, get_or-set_same, set_past}
use Rattle.std.proofs.lemmas.Bool.{and_parts, eq-eqb, eqb-true, false≢true}

-- a number put for a variable is there
pub put_same : (v : Valuation) (x n : ℕ) → put v x n x ≡ n
put_same v x n = ap (λ (b : Bool). cond b n (v x)) (eq-eqb x x refl)

-- the other variables stay as they were
pub put_other : (v : Valuation) (x n y : ℕ) → (y ≡ x → ⊥) → put v x n y ≡ v y
put_other v x n y d = step (eqb y x) refl
  where
    step : (b : Bool) → eqb y x ≡ b → cond b n (v y) ≡ v y
    step true e = absurd (d (eqb-true y x e))
    step false e = refl

module _ {B : Type 0} (m : Model B) where
  -- the box of the variable x in a list of boxes
  abbrev pub at : List B → ℕ → B
  at bs x = get_or bs x m.all

  -- each box allows the value given
  abbrev pub Fits : List B → Valuation → Type 0
  Fits bs v = (x : ℕ) → Allows m (at bs x) (v x)

  -- a value put for a variable leaves a valuation by values of the kind
  pub values_put : (v : Valuation) (x n : ℕ) → Values m v → Value m n → Values m (put v x n)
  values_put v x n h k y = step (ℕ_discrete y x)
    where
      step : Dec (y ≡ x) → Value m (put v x n y)
      step (yes e) = subst (λ (z : ℕ). Value m z) (sym (ap (put v x n) e ∙ put_same v x n)) k
      step (no d) = subst (λ (z : ℕ). Value m z) (sym (put_other v x n y d)) (h y)

  -- boxes and a box in front, with a valuation of them all
  fits_front : (d : B) (es : List B) (v : Valuation) → Allows m d (v 0) → Fits es (λ i. v (suc i)) → Fits (d ∷ es) v
  fits_front d es v f g zero = f
  fits_front d es v f g (suc x) = g x

  -- boxes that are met, first and others: both the first and the others were met
  pub front_parts : (o : Option B) (p : Option (List B)) {ds : List B} → in_front m o p ≡ Some ds
      → (d : B) × (es : List B) × (o ≡ Some d) × (p ≡ Some es) × (ds ≡ d ∷ es)
  front_parts None p e = cc
  front_parts (Some b) None e = cc
  front_parts (Some b) (Some bs) e = (b, bs, refl, refl, cc)

  -- whether boxes allow a valuation can be decided
  pub fits? : (bs : List B) (v : Valuation) → Values m v → Consequences m → Dec (Fits bs v)
  fits? [] v h laws = yes (λ x. (laws.of_all (v x)).1 (h x))
  fits? (b ∷ bs) v h laws = step (T-dec (m.allows b (v 0))) (fits? bs (λ i. v (suc i)) (λ i. h (suc i)) laws)
    where
      T-dec : (c : Bool) → Dec (T c)
      T-dec true = yes tt
      T-dec false = no (λ t. t)

      step : Dec (Allows m b (v 0)) → Dec (Fits bs (λ i. v (suc i))) → Dec (Fits (b ∷ bs) v)
      step (yes p) (yes q) = yes (fits_front b bs v p q)
      step (yes p) (no q) = no (λ f. q (λ x. f (suc x)))
      step (no p) q = no (λ f. p (f 0))

  module _ (laws : Consequences m) where
    -- the box of all values allows each value of the kind
    pub allows_all : (n : ℕ) → Value m n → Allows m m.all n
    allows_all n h = (laws.of_all n).1 h

    -- every box of a blank row allows every value
    pub at_blank : (k x : ℕ) → at (replicate k m.all) x ≡ m.all
    at_blank zero x = refl
    at_blank (suc k) zero = refl
    at_blank (suc k) (suc x) = at_blank k x

    -- so a blank row allows every valuation
    pub fits_blank : (k : ℕ) (v : Valuation) → Values m v → Fits (replicate k m.all) v
    fits_blank k v h x = subst (λ (b : B). Allows m b (v x)) (sym (at_blank k x)) (allows_all (v x) (h x))

    -- where two boxes have a value in common, they meet
    pub met : (a b : B) (n : ℕ) → Allows m a n → Allows m b n → (c : B) × (m.meet a b ≡ Some c) × Allows m c n
    met a b n p q = step (m.meet a b) refl
      where
        step : (o : Option B) → m.meet a b ≡ o → (c : B) × (m.meet a b ≡ Some c) × Allows m c n
        step None e = absurd (laws.of_none a b e n p q)
        step (Some c) e = (c, e, (laws.of_meet a b c e n).1 (p, q))

    -- boxes that are met allow what both allow
    pub from_meets : (bs cs : List B) {ds : List B} → meets m bs cs ≡ Some ds → (v : Valuation) → Values m v
        → Fits ds v → Fits bs v × Fits cs v
    from_meets [] cs {ds} e v h f =
        let q : cs ≡ ds = cc in (λ x. allows_all (v x) (h x), subst (λ (es : List B). Fits es v) (sym q) f)
    from_meets (b ∷ bs) [] {ds} e v h f =
        let q : b ∷ bs ≡ ds = cc in (subst (λ (es : List B). Fits es v) (sym q) f, λ x. allows_all (v x) (h x))
    from_meets (b ∷ bs) (c ∷ cs) e v h f =
        let i = front_parts (m.meet b c) (meets m bs cs) e in
        let f' = subst (λ (es : List B). Fits es v) i.4 f in
        let p = (laws.of_meet b c i.0 i.2 (v 0)).0 (f' 0) in
        let r = from_meets bs cs i.3 (λ y. v (suc y)) (λ y. h (suc y)) (λ y. f' (suc y)) in
        (fits_front b bs v p.0 r.0, fits_front c cs v p.1 r.1)

    -- boxes that both allow a valuation meet in boxes that allow it
    pub in_meets : (bs cs : List B) (v : Valuation) → Fits bs v → Fits cs v
        → (ds : List B) × (meets m bs cs ≡ Some ds) × Fits ds v
    in_meets [] cs v p q = (cs, refl, q)
    in_meets (b ∷ bs) [] v p q = (b ∷ bs, refl, p)
    in_meets (b ∷ bs) (c ∷ cs) v p q =
        let d = met b c (v 0) (p 0) (q 0) in
        let r = in_meets bs cs (λ i. v (suc i)) (λ i. p (suc i)) (λ i. q (suc i)) in
        (d.0 ∷ r.0, cc (d.1, r.1), fits_front d.0 r.0 v d.2 r.2)

    -- the same boxes allow the same
    pub fits_same : (bs cs : List B) → same_boxes m bs cs ≡ true → (v : Valuation) → Fits cs v → Fits bs v
    fits_same [] [] e v f = f
    fits_same [] (c ∷ cs) e v f = absurd (false≢true e)
    fits_same (b ∷ bs) [] e v f = absurd (false≢true e)
    fits_same (b ∷ bs) (c ∷ cs) e v f =
        let h = and_parts (m.same b c) (same_boxes m bs cs) e in
        fits_front b bs v
        (((laws.of_same b c).0 (holds h.0) (v 0)).1 (f 0))
        (fits_same bs cs h.1 (λ i. v (suc i)) (λ i. f (suc i)))

    -- one box is set: what the others allow stays, and the new one has to allow its value
    pub fits_set : (bs : List B) (x : ℕ) (b : B) (v : Valuation) → ((y : ℕ) → (y ≡ x → ⊥) → Allows m (at bs y) (v y))
        → (x < length bs → Allows m b (v x)) → Values m v → Fits (set bs x b) v
    fits_set bs x b v others own h y = step (ℕ_discrete y x) (dec_lt x (length bs))
      where
        step : Dec (y ≡ x) → Dec (x < length bs) → Allows m (at (set bs x b) y) (v y)
        step (no d) l = subst (λ (c : B). Allows m c (v y)) (sym (get_or-set_other bs x y b m.all d)) (others y d)
        step (yes e) (yes l) =
            subst (λ (z : ℕ). Allows m (at (set bs x b) z) (v z)) (sym e)
            (subst (λ (c : B). Allows m c (v x)) (sym (get_or-set_same bs x b m.all l)) (own l))
        step (yes e) (no l) =
            let past : length bs ≤ y = omega arith in
            subst (λ (c : B). Allows m c (v y))
            (sym (ap (λ (cs : List B). at cs y) (set_past bs x b (omega arith)) ∙ get_or_past bs y m.all past))
            (allows_all (v y) (h y))

    -- of boxes with one set, the others allow what they did
    pub from_set : (bs : List B) (x : ℕ) (b : B) (v : Valuation) → Fits (set bs x b) v
        → (y : ℕ) → (y ≡ x → ⊥) → Allows m (at bs y) (v y)
    from_set bs x b v f y d = subst (λ (c : B). Allows m c (v y)) (get_or-set_other bs x y b m.all d) (f y)

    -- and the one that is set allows its value
    pub from_set_own : (bs : List B) (x : ℕ) (b : B) (v : Valuation) → x < length bs → Fits (set bs x b) v
        → Allows m b (v x)
    from_set_own bs x b v l f = subst (λ (c : B). Allows m c (v x)) (get_or-set_same bs x b m.all l) (f x)

    -- where all boxes but one allow their values, and that one does too, all do
    pub fits_all_but : (bs : List B) (x : ℕ) (v : Valuation) → ((y : ℕ) → (y ≡ x → ⊥) → Allows m (at bs y) (v y))
        → Allows m (at bs x) (v x) → Fits bs v
    fits_all_but bs x v others own y = step (ℕ_discrete y x)
      where
        step : Dec (y ≡ x) → Allows m (at bs y) (v y)
        step (no d) = others y d
        step (yes e) = subst (λ (z : ℕ). Allows m (at bs z) (v z)) (sym e) own
