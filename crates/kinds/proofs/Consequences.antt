-- What follows from the laws alone, for every kind.
use Rattle.std.proofs.Common.{◌≡◌, ℕ, not, T, ◌↔◌, List, [], ◌∷◌, is_some, Some, None, Option, sym, refl, ap, ◌∙◌, subst, inl, inr, T_not}
use mathlib.Core.Logic.Iff
use lib.Dec.{not_T}
use Rattle.std.proofs.lemmas.Bool.{eq-eqb, eqb-true}
use Rattle.kinds.proofs.Truth.{alike, both, either, equal, holds, is_true}
use Rattle.kinds.specs.Consequences.{Allows, Consequences, Nameable, Same, Value}
use Rattle.kinds.specs.Laws.{Laws}
use Rattle.kinds.specs.Member.{◌∈◌, here, there}
use Rattle.kinds.specs.Model.{Model, allowed, together}

-- what there is of an option
some_held : {B : Type 0} (o : Option B) → T (is_some o) → (b : B) × (o ≡ Some b)
some_held None h = absurd h
some_held (Some b) h = (b, refl)

-- an option that is not some is none
none_held : {B : Type 0} (o : Option B) → (T (is_some o) → ⊥) → o ≡ None
none_held None h = refl
none_held (Some b) h = absurd (h tt)

-- what boxes allow together, one of them allows
together_from :
    {B : Type 0} (m : Model B) (bs : List B) (n : ℕ) → T (together m bs n) → (c : B) × (c ∈ bs) × Allows m c n
together_from m [] n h = absurd h
together_from m (b ∷ bs) n h =
    elim ((either (m.allows b n) (together m bs n)).0 h) [
      | inl t ↦ (b, here refl, t)
      | inr t ↦ let w = together_from m bs n t in (w.0, there w.1, w.2)
    ]

-- what one of the boxes allows, they allow together
together_in : {B : Type 0} (m : Model B) (c : B) (n : ℕ) → Allows m c n → {bs : List B} → c ∈ bs → T (together m bs n)
together_in m c n h (here {x = b} {xs = bs} e) =
    (either (m.allows b n) (together m bs n)).1 (inl (subst (λ x. Allows m x n) e h))
together_in m c n h (there {x = b} {xs = bs} i) =
    (either (m.allows b n) (together m bs n)).1 (inr (together_in m c n h i))

module _ {B : Type 0} {m : Model B} (laws : Laws m) where
  -- the box of one number allows that number alone
  one_alone : (n : ℕ) (b : B) → Nameable m n → m.one n ≡ Some b → (k : ℕ) → Allows m b k ↔ (k ≡ n)
  one_alone n b h e k =
      let s = ap (λ o. allowed m o k) (sym e) ∙ laws.one_allows n k (is_true (m.nameable n) h) in
      (λ t. eqb-true k n (sym s ∙ is_true (m.allows b k) t), λ p. holds (s ∙ eq-eqb k n p))

  -- there is such a box
  one_box : (n : ℕ) → Nameable m n → (b : B) × (m.one n ≡ Some b) × ((k : ℕ) → Allows m b k ↔ (k ≡ n))
  one_box n h =
      let w = some_held (m.one n) ((alike (laws.one_nameable n)).1 h) in (w.0, w.1, one_alone n w.0 h w.1)

  -- what two boxes meet in, a box or none, allows the values in both
  in_both : (a b : B) (o : Option B) → m.meet a b ≡ o → (n : ℕ) → T (allowed m o n) ↔ (Allows m a n × Allows m b n)
  in_both a b o e n =
      let s = ap (λ x. allowed m x n) (sym e) ∙ laws.meet_allows a b n in
      Iff.trans (alike s) (both (m.allows a n) (m.allows b n))

  -- a box that two boxes meet in has a value, which is in both
  apart : (a b : B) → ((n : ℕ) → Allows m a n → Allows m b n → ⊥) → m.meet a b ≡ None
  apart a b h = none_held (m.meet a b) (λ t.
      let w = some_held (m.meet a b) t in
      let v = laws.allows_some w.0 in
      let k = (in_both a b (Some w.0) w.1 v.0).0 (holds v.1) in
      h v.0 k.0 k.1)

  -- the pieces of a box have the values that it leaves out
  left_out : (b : B) (n : ℕ) → Value m n → (Allows m b n → ⊥) ↔ ((c : B) × (c ∈ m.pieces b) × Allows m c n)
  left_out b n v =
      let s = Iff.trans (alike (laws.pieces_allow b n)) (both (m.value n) (not (m.allows b n))) in (
        λ h. together_from m (m.pieces b) n (s.1 (v, not_T (m.allows b n) h)),
        λ w. T_not (m.allows b n) (s.0 (together_in m w.0 n w.2 w.1)).1,
      )

  -- boxes of the same values, as facts
  same_values : (a b : B) → Same m a b ↔ ((n : ℕ) → Allows m a n ↔ Allows m b n)
  same_values a b = (
    λ h n. alike ((laws.same_allows a b).0 (is_true (m.same a b) h) n),
    λ h. holds ((laws.same_allows a b).1 (λ n. equal (m.allows a n) (m.allows b n) (h n))),
  )

  -- the laws give all that is built on a kind
  pub consequences : Consequences m
  consequences = record {
    named = λ n h. holds (laws.nameable_value n (is_true (m.nameable n) h));
    within = λ b n h. holds (laws.allows_value b n (is_true (m.allows b n) h));
    filled = λ b. let w = laws.allows_some b in (w.0, holds w.1);
    of_one = one_box;
    of_other = λ n h. none_held (m.one n) (λ t. h ((alike (laws.one_nameable n)).0 t));
    of_all = λ n. alike (laws.all_allows n);
    of_none = λ a b e n h k. (in_both a b None e n).1 (h, k);
    of_apart = apart;
    of_meet = λ a b c e n. in_both a b (Some c) e n;
    of_pieces = left_out;
    of_same = same_values;
    same_refl = λ a. (same_values a a).1 (λ n. Iff.rfl);
    same_sym = λ a b h. (same_values b a).1 (λ n. Iff.symm ((same_values a b).0 h n));
    same_trans =
        λ a b c h k. (same_values a c).1 (λ n. Iff.trans ((same_values a b).0 h n) ((same_values b c).0 k n));
  }
