-- Tables in which each witness names earlier ones only, and the trees of no witness and of a single one there.
use Rattle.std.proofs.Common.{◌≡◌, ℕ, zero, suc, ◌<◌, ◌≤◌, Bool, true, false, cond, List, length, sym, refl, ap, ◌∙◌, arith}
use native.Mathlib.Decide.{ℕ_discrete}
use Rattle.kinds.specs.Model.{Model}
use Rattle.rows.proofs.Members.{has-none, has-single}
use Rattle.rows.specs.Forests.{has, most_witnesses, none, single}
use Rattle.rows.specs.declared.forest.Forest.{Forest}
use Rattle.rows.specs.declared.witness.Witness.{Witness}
use Rattle.logic.specs.Faithful.{trees, trees_below, witness}
use Rattle.logic.specs.Trees.{Trees, bare, tree}
use Rattle.logic.proofs.ForestTrees.{with_tree}
use Rattle.std.proofs.lemmas.Bool.{eq-eqb, eqb-true, false_from_ne_true}

-- the witnesses are as many as a forest can name, and each names only earlier ones
pub record Grounded {B : Type 0} (m : Model B) (ws : List (Witness B)) : Type 0 where
  pub few : length ws ≤ most_witnesses
  pub earlier : (i : ℕ) → i < length ws → (j : ℕ) → has (witness m ws i).forest j ≡ true → j < i

module _ {B : Type 0} (m : Model B) (ws : List (Witness B)) where
  -- a number that is not in adds no tree
  skip : (n : ℕ) (f : Forest) → has f n ≡ false → trees_below m ws (suc n) f ≡ trees_below m ws n f
  skip n f e = ap (λ (c : Bool). cond c (with_tree m ws n (trees_below m ws n f)) (trees_below m ws n f)) e

  -- a forest of numbers below i has no trees of later witnesses
  pub cut : (n i : ℕ) (f : Forest) → i ≤ n → ((j : ℕ) → has f j ≡ true → j < i)
      → trees_below m ws n f ≡ trees_below m ws i f
  cut zero i f l h = let e : 0 ≡ i = omega arith in ap (λ (k : ℕ). trees_below m ws k f) e
  cut (suc n) i f l h = step (λ k. cut n i f k h) (ℕ_discrete (suc n) i)
    where
      step : (i ≤ n → trees_below m ws n f ≡ trees_below m ws i f) → Dec (suc n ≡ i)
          → trees_below m ws (suc n) f ≡ trees_below m ws i f
      step rec (yes e) = ap (λ (k : ℕ). trees_below m ws k f) e
      step rec (no d) =
          skip n f (false_from_ne_true (has f n) (λ t. let k : n < i = h n t in absurd (omega arith))) ∙ rec (omega arith)

  -- a forest with no number below n has no trees of witnesses below n
  none_below : (n : ℕ) (f : Forest) → ((j : ℕ) → j < n → has f j ≡ false) → trees_below m ws n f ≡ bare
  none_below zero f h = refl
  none_below (suc n) f h = skip n f (h n (omega arith)) ∙ none_below n f (λ j l. h j (omega arith))

  -- no witnesses, no trees
  pub trees-none : trees m ws none ≡ bare
  trees-none = none_below (length ws) none (λ j l. has-none j)

  -- one witness, one tree
  pub trees-single : Grounded m ws → (i : ℕ) → i < length ws
      → trees m ws (single i) ≡ tree (witness m ws i).state (witness m ws i).variable (witness m ws i).found
      (trees m ws (witness m ws i).forest) bare
  trees-single grounded i l =
      let few = grounded.few in
      let small : i < most_witnesses = omega arith in
      let only : (j : ℕ) → has (single i) j ≡ true → j < suc i =
      λ j t. let e = eqb-true j i (sym (has-single i j small) ∙ t) in omega arith in
      let others : (j : ℕ) → j < i → has (single i) j ≡ false =
      λ j k. false_from_ne_true (has (single i) j) (λ t.
      let e = eqb-true j i (sym (has-single i j small) ∙ t) in absurd (omega arith)) in
      let own : has (single i) i ≡ true = has-single i i small ∙ eq-eqb i i refl in
      let w = witness m ws i in
      cut (length ws) (suc i) (single i) (omega arith) only
      ∙ ap (λ (c : Bool). cond c (with_tree m ws i (trees_below m ws i (single i))) (trees_below m ws i (single i))) own
      ∙ ap (with_tree m ws i) (none_below i (single i) others)
      ∙ ap (λ (g : Trees B). tree w.state w.variable w.found g bare)
      (sym (cut (length ws) i w.forest (omega arith) (grounded.earlier i l)))
