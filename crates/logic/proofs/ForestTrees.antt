-- The trees that forests stand for, by the witnesses that they name; and those of a union of forests.
use Rattle.std.proofs.Common.{◌≡◌, ℕ, zero, suc, ◌<◌, Bool, true, false, cond, ◌⊎◌, List, sym, refl, ap, ◌∙◌, subst, inl, inr, arith}
use native.Mathlib.Decide.{ℕ_discrete}
use Rattle.kinds.specs.Model.{Model}
use Rattle.rows.proofs.Members.{has-union}
use Rattle.rows.specs.Forests.{has, union}
use Rattle.rows.specs.declared.forest.Forest.{Forest}
use Rattle.rows.specs.declared.witness.Witness.{Witness}
use Rattle.logic.specs.Faithful.{trees_below, witness}
use Rattle.logic.specs.Trees.{Trees, tree, Has, ◌∪◌, Match}
use Rattle.logic.proofs.Flags.{not_both}
use Rattle.logic.proofs.TreeSets.{from_∪, has_left, has_right, match_back, match_forth, match_members}
use Rattle.std.proofs.lemmas.Bool.{or_cases, or_left, or_right}

module _ {B : Type 0} (m : Model B) (ws : List (Witness B)) where
  -- what is below the witness i
  abbrev pub under : ℕ → Trees B
  under i = trees_below m ws i (witness m ws i).forest

  -- the tree of the witness i, and others
  abbrev pub with_tree : ℕ → Trees B → Trees B
  with_tree i others = tree (witness m ws i).state (witness m ws i).variable (witness m ws i).found (under i) others

  -- the tree is that of a witness below n whose number is in the forest
  record OfWitness (n : ℕ) (f : Forest) (s x : ℕ) (b : B) (below : Trees B) : Type 0 where
    number : ℕ
    small : number < n
    member : has f number ≡ true
    state : (witness m ws number).state ≡ s
    variable : (witness m ws number).variable ≡ x
    found : (witness m ws number).found ≡ b
    trees_under : under number ≡ below

  -- the same witness, under another bound and in another forest that names it
  of_same : {n k : ℕ} {f h : Forest} {s x : ℕ} {b : B} {below : Trees B} (r : OfWitness n f s x b below)
      → r.number < k → has h r.number ≡ true → OfWitness k h s x b below
  of_same r l t =
      record {
        number = r.number;
        small = l;
        member = t;
        state = r.state;
        variable = r.variable;
        found = r.found;
        trees_under = r.trees_under;
      }

  -- the same with a wider bound
  of_more : {n : ℕ} {f : Forest} {s x : ℕ} {b : B} {below : Trees B} → OfWitness n f s x b below
      → OfWitness (suc n) f s x b below
  of_more r = let l = r.small in of_same r (omega arith) r.member

  -- each tree of a forest is that of such a witness
  from_trees : (n : ℕ) (f : Forest) (s x : ℕ) (b : B) (below : Trees B) → Has (trees_below m ws n f) s x b below
      → OfWitness n f s x b below
  from_trees zero f s x b below h = absurd h
  from_trees (suc n) f s x b below h = step (has f n) refl (λ k. from_trees n f s x b below k) h
    where
      step : (c : Bool) → has f n ≡ c → (Has (trees_below m ws n f) s x b below → OfWitness n f s x b below)
          → Has (cond c (with_tree n (trees_below m ws n f)) (trees_below m ws n f)) s x b below
          → OfWitness (suc n) f s x b below
      step true t rec (inl e) =
          record {
            number = n;
            small = omega arith;
            member = t;
            state = e.0;
            variable = e.1;
            found = e.2;
            trees_under = e.3;
          }
      step true t rec (inr k) = of_more (rec k)
      step false t rec k = of_more (rec k)

  -- and such a witness has its tree in the forest
  in_trees : (n : ℕ) (f : Forest) (s x : ℕ) (b : B) (below : Trees B) → OfWitness n f s x b below
      → Has (trees_below m ws n f) s x b below
  in_trees zero f s x b below r = let l = r.small in absurd (omega arith)
  in_trees (suc n) f s x b below r =
      step (ℕ_discrete r.number n) (has f n) refl (λ l. in_trees n f s x b below (smaller l))
    where
      smaller : r.number < n → OfWitness n f s x b below
      smaller l = of_same r l r.member

      at : (k : ℕ) → r.number ≡ k → ((witness m ws k).state ≡ s) × ((witness m ws k).variable ≡ x)
          × ((witness m ws k).found ≡ b) × (under k ≡ below)
      at k e =
          subst (λ (j : ℕ). ((witness m ws j).state ≡ s) × ((witness m ws j).variable ≡ x) × ((witness m ws j).found ≡ b)
          × (under j ≡ below)) e (r.state, r.variable, r.found, r.trees_under)

      step : Dec (r.number ≡ n) → (c : Bool) → has f n ≡ c → (r.number < n → Has (trees_below m ws n f) s x b below)
          → Has (cond c (with_tree n (trees_below m ws n f)) (trees_below m ws n f)) s x b below
      step (yes q) true t rec = inl (at n q)
      step (yes q) false t rec = absurd (not_both (ap (has f) (sym q) ∙ r.member) t)
      step (no d) true t rec = let l = r.small in inr (rec (omega arith))
      step (no d) false t rec = let l = r.small in rec (omega arith)

  -- a forest whose numbers are in another has its trees there
  trees_within : (n : ℕ) (f h : Forest) → ((i : ℕ) → has f i ≡ true → has h i ≡ true) → (s x : ℕ) (b : B)
      (below : Trees B) → Has (trees_below m ws n f) s x b below → Has (trees_below m ws n h) s x b below
  trees_within n f h to s x b below k =
      let r = from_trees n f s x b below k in
      in_trees n h s x b below (of_same r r.small (to r.number r.member))

  -- the trees of each part are trees of the union
  pub trees_left : (n : ℕ) (f h : Forest) (s x : ℕ) (b : B) (below : Trees B) → Has (trees_below m ws n f) s x b below
      → Has (trees_below m ws n (union f h)) s x b below
  trees_left n f h =
      trees_within n f (union f h) (λ i e. has-union f h i ∙ or_left (has f i) (has h i) e)

  pub trees_right : (n : ℕ) (f h : Forest) (s x : ℕ) (b : B) (below : Trees B) → Has (trees_below m ws n h) s x b below
      → Has (trees_below m ws n (union f h)) s x b below
  trees_right n f h =
      trees_within n h (union f h) (λ i e. has-union f h i ∙ or_right (has f i) (has h i) e)

  -- a tree of a union of forests is in one of the two
  pub trees_union : (n : ℕ) (f h : Forest) (s x : ℕ) (b : B) (below : Trees B)
      → Has (trees_below m ws n (union f h)) s x b below
      → Has (trees_below m ws n f) s x b below ⊎ Has (trees_below m ws n h) s x b below
  trees_union n f h s x b below k =
      let r = from_trees n (union f h) s x b below k in
      let one : (e : Forest) → has e r.number ≡ true → Has (trees_below m ws n e) s x b below =
      λ e t. in_trees n e s x b below (of_same r r.small t) in
      elim (or_cases (has f r.number) (has h r.number) (sym (has-union f h r.number) ∙ r.member)) [
        | inl t ↦ inl (one f t)
        | inr t ↦ inr (one h t)
      ]

  -- what matches two forests, united, matches their union
  pub match_union : {N : Type 0} (R : B → N → Type 0) (n : ℕ) (f h : Forest) (x y : Trees N)
      → Match R (trees_below m ws n f) x → Match R (trees_below m ws n h) y
      → Match R (trees_below m ws n (union f h)) (x ∪ y)
  match_union R n f h x y p q =
      match_members R (trees_below m ws n (union f h)) (x ∪ y)
      (λ s z a below i. elim (trees_union n f h s z a below i) [
        | inl j ↦ let r = match_forth R (trees_below m ws n f) x p s z a below j in
            (r.0, r.1, has_left s z r.0 r.1 x y r.2, r.3, r.4)
        | inr j ↦ let r = match_forth R (trees_below m ws n h) y q s z a below j in
            (r.0, r.1, has_right s z r.0 r.1 x y r.2, r.3, r.4)
      ])
      (λ s z b deep i. elim (from_∪ s z b deep x y i) [
        | inl j ↦ let r = match_back R (trees_below m ws n f) x p s z b deep j in
            (r.0, r.1, trees_left n f h s z r.0 r.1 r.2, r.3, r.4)
        | inr j ↦ let r = match_back R (trees_below m ws n h) y q s z b deep j in
            (r.0, r.1, trees_right n f h s z r.0 r.1 r.2, r.3, r.4)
      ])
