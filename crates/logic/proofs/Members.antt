-- Membership of lists that are joined, mapped and counted.
use Rattle.std.proofs.Common.{◌≡◌, ℕ, zero, suc, ◌+◌, ◌<◌, ◌≤◌, Bool, true, false, cond, ◌||◌, ◌⊎◌, List, [], ◌∷◌, ◌++◌, map, length, Some, None, Option, sym, refl, ap, ◌∙◌, subst, inl, inr, arith}
use native.Mathlib.Decide.{ℕ_discrete}
use Rattle.kinds.specs.Member.{◌∈◌, here, there}
use Rattle.std.proofs.lemmas.Bool.{and_parts, false≢true, or_left, or_right}
use Rattle.std.specs.List.{range_with_len, flat_map, AllByRecursion, list_any, list_all}
use Rattle.std.specs.Option.{option_to_list}

module _ {A : Type 0} where
  -- what is in either of two lists is in both joined
  pub in_left : {a : A} {xs : List A} (ys : List A) → a ∈ xs → a ∈ (xs ++ ys)
  in_left ys (here e) = here e
  in_left ys (there i) = there (in_left ys i)

  pub in_right : {a : A} (xs : List A) {ys : List A} → a ∈ ys → a ∈ (xs ++ ys)
  in_right [] i = i
  in_right (x ∷ xs) i = there (in_right xs i)

  deeper : {a x : A} {xs ys : List A} → (a ∈ xs) ⊎ (a ∈ ys) → (a ∈ (x ∷ xs)) ⊎ (a ∈ ys)
  deeper (inl i) = inl (there i)
  deeper (inr i) = inr i

  -- what is in two lists joined is in one of them
  pub from_append : {a : A} (xs : List A) {ys : List A} → a ∈ (xs ++ ys) → (a ∈ xs) ⊎ (a ∈ ys)
  from_append [] i = inr i
  from_append (x ∷ xs) (here e) = inl (here e)
  from_append (x ∷ xs) (there i) = deeper (from_append xs i)

  -- a list of one element has no other
  pub from_one : {a x : A} → a ∈ (x ∷ []) → a ≡ x
  from_one (here e) = e
  from_one (there i) = elim i [ ]

  -- an option is a list of at most one element
  pub in_listed : {a : A} (o : Option A) → o ≡ Some a → a ∈ option_to_list o
  in_listed {a} o e = subst (λ (p : Option A). a ∈ option_to_list p) (sym e) (here refl)

  pub from_listed : {a : A} (o : Option A) → a ∈ option_to_list o → o ≡ Some a
  from_listed None i = elim i [ ]
  from_listed (Some b) i = ap Some (sym (from_one i))

  -- of what stands in a list by a test, the test holds
  pub from_cond : {a : A} (b : Bool) (xs : List A) → a ∈ cond b xs [] → (b ≡ true) × (a ∈ xs)
  from_cond true xs i = (refl, i)
  from_cond false xs i = elim i [ ]

  -- and what the test lets pass is there
  pub in_cond : {a : A} (b : Bool) (xs : List A) → b ≡ true → a ∈ xs → a ∈ cond b xs []
  in_cond {a} b xs e i = subst (λ (c : Bool). a ∈ cond c xs []) (sym e) i

  -- an element that passes is there, where some element does
  pub from_any : (p : A → Bool) (xs : List A) → list_any p xs ≡ true → (a : A) × (a ∈ xs) × (p a ≡ true)
  from_any p [] e = absurd (false≢true e)
  from_any p (x ∷ xs) e = step (p x) refl (λ f. from_any p xs f) e
    where
      step : (b : Bool) → p x ≡ b → (list_any p xs ≡ true → (a : A) × (a ∈ xs) × (p a ≡ true)) → (b || list_any p xs) ≡ true
          → (a : A) × (a ∈ (x ∷ xs)) × (p a ≡ true)
      step true q rec f = (x, here refl, q)
      step false q rec f = let r = rec f in (r.0, there r.1, r.2)

  -- where an element passes, some element does
  pub in_any : (p : A → Bool) {a : A} {xs : List A} → a ∈ xs → p a ≡ true → list_any p xs ≡ true
  in_any p {a} (here {x = x} {xs = xs} e) q = or_left (p x) (list_any p xs) (ap p (sym e) ∙ q)
  in_any p (there {x = x} {xs = xs} i) q = or_right (p x) (list_any p xs) (in_any p i q)

  -- where every element passes, each does
  pub from_every : (p : A → Bool) {a : A} (xs : List A) → list_all p xs ≡ true → a ∈ xs → p a ≡ true
  from_every p [] e i = elim i [ ]
  from_every p (x ∷ xs) e (here q) = ap p q ∙ (and_parts (p x) (list_all p xs) e).0
  from_every p (x ∷ xs) e (there i) = from_every p xs (and_parts (p x) (list_all p xs) e).1 i

  -- what holds of all elements holds of each
  pub from_all : (P : A → Type 0) {a : A} {xs : List A} → AllByRecursion P xs → a ∈ xs → P a
  from_all P h (here e) = subst P (sym e) h.0
  from_all P h (there i) = from_all P h.1 i

  -- whether some element of a list has a property that can be decided
  pub some_in? : {P : A → Type 0} → ((a : A) → Dec (P a)) → (xs : List A) → Dec ((a : A) × (a ∈ xs) × P a)
  some_in? d [] = no (λ w. elim w.1 [ ])
  some_in? {P} d (x ∷ xs) = step (d x) (some_in? d xs)
    where
      from : (P x → ⊥) → ((a : A) × (a ∈ xs) × P a → ⊥) → (a : A) → a ∈ (x ∷ xs) → P a → ⊥
      from n k a (here e) p = n (subst P e p)
      from n k a (there i) p = k (a, i, p)

      step : Dec (P x) → Dec ((a : A) × (a ∈ xs) × P a) → Dec ((a : A) × (a ∈ (x ∷ xs)) × P a)
      step (yes p) r = yes (x, here refl, p)
      step (no n) (yes r) = yes (r.0, there r.1, r.2)
      step (no n) (no k) = no (λ r. from n k r.0 r.1 r.2)

  -- a list that is not empty has a first element
  pub first_in : (xs : List A) → 0 < length xs → (a : A) × (a ∈ xs)
  first_in [] h = absurd (omega arith)
  first_in (x ∷ xs) h = (x, here refl)

module _ {A B : Type 0} (f : A → B) where
  -- what is made of an element is in the list of what is made of all
  pub in_map : {a : A} {xs : List A} → a ∈ xs → f a ∈ map f xs
  in_map (here e) = here (ap f e)
  in_map (there i) = there (in_map i)

  -- and nothing else is
  pub from_map : {b : B} (xs : List A) → b ∈ map f xs → (a : A) × (a ∈ xs) × (b ≡ f a)
  from_map [] i = elim i [ ]
  from_map (x ∷ xs) (here e) = (x, here refl, e)
  from_map (x ∷ xs) (there i) = let r = from_map xs i in (r.0, there r.1, r.2)

module _ {A B : Type 0} (f : A → List B) where
  -- lists made of elements, joined: what is in one of them is in all of them joined
  pub in_joined : {a : A} {b : B} {xs : List A} → a ∈ xs → b ∈ f a → b ∈ flat_map f xs
  in_joined {b = b} (here {xs = xs} e) j = in_left (flat_map f xs) (subst (λ (c : A). b ∈ f c) e j)
  in_joined (there {x = x} i) j = in_right (f x) (in_joined i j)

  -- and nothing else is
  pub from_joined : {b : B} (xs : List A) → b ∈ flat_map f xs → (a : A) × (a ∈ xs) × (b ∈ f a)
  from_joined [] i = elim i [ ]
  from_joined {b} (x ∷ xs) i = step (λ j. from_joined xs j) (from_append (f x) i)
    where
      step : (b ∈ flat_map f xs → (a : A) × (a ∈ xs) × (b ∈ f a)) → (b ∈ f x) ⊎ (b ∈ flat_map f xs)
          → (a : A) × (a ∈ (x ∷ xs)) × (b ∈ f a)
      step rec (inl j) = (x, here refl, j)
      step rec (inr j) = let r = rec j in (r.0, there r.1, r.2)

-- counting goes through each number from the first to the last
pub in_counting : (a n k : ℕ) → a ≤ k → k < a + n → k ∈ range_with_len a n
in_counting a zero k l h = absurd (omega arith)
in_counting a (suc n) k l h = step (ℕ_discrete k a) (λ d. in_counting (a + 1) n k (omega arith) (omega arith))
  where
    step : Dec (k ≡ a) → ((k ≡ a → ⊥) → k ∈ range_with_len (a + 1) n) → k ∈ (a ∷ range_with_len (a + 1) n)
    step (yes e) rec = here e
    step (no d) rec = there (rec d)

-- and through no other
pub from_counting : (a n k : ℕ) → k ∈ range_with_len a n → (a ≤ k) × (k < a + n)
from_counting a zero k i = elim i [ ]
from_counting a (suc n) k (here e) = (omega arith, omega arith)
from_counting a (suc n) k (there i) = let h = from_counting (a + 1) n k i in (omega arith, omega arith)
