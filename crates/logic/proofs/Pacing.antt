-- The two steps, to each successor and to one: what the rest of the argument has to know of them.
use Rattle.std.proofs.Common.{◌≡◌, ℕ, List, [], ◌∷◌, length, sym, refl, ap, subst}
use Rattle.flow.specs.Graph.{Graph, successors}
use Rattle.kinds.specs.Consequences.{Allows}
use Rattle.kinds.specs.Member.{◌∈◌, here, there}
use Rattle.kinds.specs.Model.{Model}
use Rattle.rows.specs.Forests.{none, union}
use Rattle.rows.specs.declared.forest.Forest.{Forest}
use Rattle.rows.specs.declared.witness.Witness.{Witness}
use Rattle.logic.specs.Accounts.{Account, Accounting, ◌≋◌, of_each_next, of_some_next, united}
use Rattle.logic.specs.Faithful.{Filling, Matches, trees}
use Rattle.logic.specs.Trees.{Trees, bare, tree, ◌∪◌}
use Rattle.logic.proofs.ForestTrees.{match_union}
use Rattle.logic.proofs.Grounded.{trees-none}
use Rattle.logic.proofs.Right.{each_next, one_next}
use Rattle.logic.proofs.SameNotes.{≋_eq, ≋_refl, ≋_sym, ≋_trans, ≋-∪}
use Rattle.logic.proofs.Splitting.{filling_bare, split_filling}
use Rattle.logic.proofs.Through.{Showing, Through, over, through_map, turn}
use Rattle.logic.proofs.TreeSets.{match_bare, match_trans}

-- unions of accounts: no notes add nothing, and grouping does not count
∪-bare : (x : Account) → x ∪ bare ≡ x
∪-bare bare = refl
∪-bare (tree s v n inner others) = ap (tree s v n inner) (∪-bare others)

∪_assoc : (x y z : Account) → (x ∪ y) ∪ z ≡ x ∪ (y ∪ z)
∪_assoc bare y z = refl
∪_assoc (tree s v n inner others) y z = ap (tree s v n inner) (∪_assoc others y z)

-- an account for the first of a list, and accounts for the others
abbrev ahead : {t : ℕ} {ts : List ℕ} → Account → ((u : ℕ) → u ∈ ts → Account) → (u : ℕ) → u ∈ (t ∷ ts) → Account
ahead y of u (here e) = y
ahead y of u (there i) = of u i

-- the same notes account for the same
abbrev pub Steady : Accounting → Type 0
Steady A = (s : ℕ) (x y : Account) → x ≋ y → A s x → A s y

module _ {B : Type 0} (m : Model B) (ws : List (Witness B)) where
  -- the account matches the trees of the forest
  abbrev pub Fit : Forest → Account → Type 0
  Fit f acc = Matches m (trees m ws f) acc

  -- accounts with the same notes match the same trees
  pub fit_same : (f : Forest) (x y : Account) → Fit f x → x ≋ y → Fit f y
  fit_same f x y k e =
      match_trans (λ b n. Allows m b n) (λ (n k : ℕ). n ≡ k) (λ b n. Allows m b n)
      (λ b n k p q. subst (λ (z : ℕ). Allows m b z) q p) (trees m ws f) x y k e

  -- the empty account matches no witnesses
  pub fit_none : Fit none bare
  fit_none = subst (λ (f : Trees B). Matches m f bare) (sym (trees-none m ws)) (match_bare (λ b n. Allows m b n))

  -- a filling of no witnesses is the empty account
  pub filling_none : {acc : Account} → Filling m (trees m ws none) acc → acc ≡ bare
  filling_none {acc} w = filling_bare m (subst (λ (f : Trees B). Filling m f acc) (trees-none m ws) w)

  -- a step of what is shown, beside a step of accounts
  pub record Pace (g : Graph) (step : Showing → Showing) (next : Accounting → Accounting) : Type 1 where
    -- a step goes along with what is shown and with accounts
    pub step_map : (S T : Showing) → ((t : ℕ) (f : Forest) → S t f → T t f) → (s : ℕ) (h : Forest) → step S s h
        → step T s h
    pub next_map : (A C : Accounting) → ((t : ℕ) (x : Account) → A t x → C t x) → (s : ℕ) (x : Account) → next A s x
        → next C s x
    pub next_same : (A : Accounting) → Steady A → Steady (next A)
    -- a step leads to successors
    pub next_to : (P : ℕ → Type 0) → ((s t : ℕ) → t ∈ successors g s → P t) → (A : Accounting) (s : ℕ) (x : Account)
        → next A s x → next (λ t y. P t × A t y) s x
    -- where fillings of what is shown are accounts, they are so a step before
    pub fills : (S : Showing) (A : Accounting)
        → ((t : ℕ) (f : Forest) → S t f → (acc : Account) → Filling m (trees m ws f) acc → A t acc)
        → (s : ℕ) (h : Forest) → step S s h → (acc : Account) → Filling m (trees m ws h) acc → next A s acc
    -- where accounts match something that is shown, they do so a step before
    pub fits : (S : Showing) (A : Accounting)
        → ((t : ℕ) (acc : Account) → A t acc → (f : Forest) × S t f × Fit f acc)
        → (s : ℕ) (acc : Account) → next A s acc → (h : Forest) × step S s h × Fit h acc

  module _ (g : Graph) where
    -- accounts of each of several states, in turn
    filled_through : (S : Showing) (A : Accounting)
        → ((t : ℕ) (f : Forest) → S t f → (acc : Account) → Filling m (trees m ws f) acc → A t acc)
        → {ts : List ℕ} {f h : Forest} → Through S ts f h → (acc : Account) → Filling m (trees m ws h) acc
        → (x : Account) × (of : (t : ℕ) → t ∈ ts → Account) × Filling m (trees m ws f) x
        × ((t : ℕ) (i : t ∈ ts) → A t (of t i)) × (acc ≋ x ∪ united ts of)
    filled_through S A fills over acc w =
        (acc, (λ t i. elim i [ ]), w, (λ t i. elim i [ ]), ≋_eq (sym (∪-bare acc)))
    filled_through S A fills (turn {t = t} {ts = ts} {f = f} {e = e} {h = h} shown rest) acc w =
        let r = filled_through S A fills rest acc w in
        let p = split_filling m ws (length ws) f e r.0 r.2 in
        let x = p.0 in
        let y = p.1 in
        let us = united ts r.1 in
        let all : acc ≋ x ∪ (y ∪ us) =
        ≋_trans acc (r.0 ∪ us) (x ∪ (y ∪ us)) r.4
        (≋_trans (r.0 ∪ us) ((x ∪ y) ∪ us) (x ∪ (y ∪ us)) (≋-∪ r.0 us (x ∪ y) us p.4 (≋_refl us))
        (≋_eq (∪_assoc x y us))) in
        (x, ahead y r.1, p.2, each (fills t e shown y p.3) r.3, all)
      where
        each : {y : Account} {of : (u : ℕ) → u ∈ ts → Account} → A t y → ((u : ℕ) (i : u ∈ ts) → A u (of u i))
            → (u : ℕ) (i : u ∈ (t ∷ ts)) → A u (ahead y of u i)
        each {y} a rec u (here q) = subst (λ (k : ℕ). A k y) (sym q) a
        each a rec u (there i) = rec u i

    -- forests that match accounts of each of several states, united in turn
    fit_through : (S : Showing) (A : Accounting)
        → ((t : ℕ) (acc : Account) → A t acc → (f : Forest) × S t f × Fit f acc)
        → (ts : List ℕ) (of : (t : ℕ) → t ∈ ts → Account) → ((t : ℕ) (i : t ∈ ts) → A t (of t i))
        → (f : Forest) (x : Account) → Fit f x → (h : Forest) × Through S ts f h × Fit h (x ∪ united ts of)
    fit_through S A fits [] of each f x k = (f, over, subst (λ (z : Account). Fit f z) (sym (∪-bare x)) k)
    fit_through S A fits (t ∷ ts) of each f x k =
        let a = fits t (of t (here refl)) (each t (here refl)) in
        let y = of t (here refl) in
        let both = match_union m ws (λ b n. Allows m b n) (length ws) f a.0 x y k a.2 in
        let r = fit_through S A fits ts (λ u i. of u (there i)) (λ u i. each u (there i)) (union f a.0) (x ∪ y)
        both in
        (r.0, turn a.1 r.1, subst (λ (z : Account). Fit r.0 z) (∪_assoc x y _) r.2)

    -- to each successor
    pub pace_each : Pace g (each_next g) (of_each_next g)
    pace_each =
        record {
          step_map = λ S T to s h w. through_map S T to w;
          next_map = λ A C to s x w. (w.0, (λ t i. to t (w.0 t i) (w.1 t i)), w.2);
          next_same = λ A steady s x y e w. (w.0, w.1, ≋_trans y x _ (≋_sym x y e) w.2);
          next_to = λ P to A s x w. (w.0, (λ t i. (to s t i, w.1 t i)), w.2);
          fills = λ S A fill s h w acc k.
              let r = filled_through S A fill w acc k in
              let start = filling_none r.2 in
              (r.1, r.3, subst (λ (z : Account). acc ≋ z ∪ united (successors g s) r.1) start r.4);
          fits = λ S A fit s acc w.
              let r = fit_through S A fit (successors g s) w.0 w.1 none bare fit_none in
              (r.0, r.1, fit_same r.0 _ acc r.2 (≋_sym acc _ w.2));
        }

    -- to one successor
    pub pace_one : Pace g (one_next g) (of_some_next g)
    pace_one =
        record {
          step_map = λ S T to s h w. (w.0, w.1, to w.0 h w.2);
          next_map = λ A C to s x w. (w.0, w.1, to w.0 x w.2);
          next_same = λ A steady s x y e w. (w.0, w.1, steady w.0 x y e w.2);
          next_to = λ P to A s x w. (w.0, w.1, (to s w.0 w.1, w.2));
          fills = λ S A fill s h w acc k. (w.0, w.1, fill w.0 h w.2 acc k);
          fits = λ S A fit s acc w. let r = fit w.0 acc w.2 in (r.0, (w.0, w.1, r.1), r.2);
        }
