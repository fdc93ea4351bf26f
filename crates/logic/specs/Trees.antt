-- Sets of trees. A tree is a state, a variable, a mark and a set of trees below it: witnesses are trees whose marks are
-- boxes, notes are trees whose marks are values. Order and repeats do not count.
use Rattle.std.specs.Prelude.{◌≡◌, ℕ, ◌⊎◌}

-- no tree, or a tree and others
pub data Trees (M : Type 0) : Type 0 where
  bare : Trees M
  tree : (state variable : ℕ) (mark : M) (below others : Trees M) → Trees M

module _ {M : Type 0} where
  -- the set has this tree
  abbrev pub Has : Trees M → ℕ → ℕ → M → Trees M → Type 0
  Has bare s x n below = ⊥
  Has (tree t y o under others) s x n below =
      ((t ≡ s) × (y ≡ x) × (o ≡ n) × (under ≡ below)) ⊎ Has others s x n below

  -- the trees of both
  infixl 50 ◌∪◌
  abbrev pub ◌∪◌ : Trees M → Trees M → Trees M
  bare ∪ g = g
  tree s x n below others ∪ g = tree s x n below (others ∪ g)

-- Sets match when each tree of either has a match in the other. Trees match when their states and variables are equal,
-- their marks agree, and the sets below them match.
module _ {M N : Type 0} (Agree : M → N → Type 0) where
  abbrev mutual
    -- each tree of the first set has a match in the second
    pub Into : Trees M → Trees N → Type 0
    Into bare g = Unit {0}
    Into (tree s x a below others) g =
        ((b : N) × (under : Trees N) × Has g s x b under × Agree a b × Into below under
        × ((t y : ℕ) (c : N) (deep : Trees N) → Has under t y c deep → Matched below t y c deep))
        × Into others g

    -- a tree of the second set has a match in the first
    pub Matched : Trees M → ℕ → ℕ → N → Trees N → Type 0
    Matched bare t y b under = ⊥
    Matched (tree s x a below others) t y b under =
        ((s ≡ t) × (x ≡ y) × Agree a b × Into below under
        × ((u z : ℕ) (c : N) (deep : Trees N) → Has under u z c deep → Matched below u z c deep))
        ⊎ Matched others t y b under

  pub record Match (f : Trees M) (g : Trees N) : Type 0 where
    pub into : Into f g
    pub onto : (s x : ℕ) (b : N) (under : Trees N) → Has g s x b under → Matched f s x b under
