-- Sets of trees by their members: induction over what is below, unions, and matching.
use Rattle.std.proofs.Common.{ℕ, ◌⊎◌, sym, refl, subst, inl, inr}
use Rattle.logic.specs.Trees.{Trees, bare, tree, Has, ◌∪◌, Into, Matched, Match}

module _ {M : Type 0} where
  -- the first tree is in the set
  pub has_first : (s x : ℕ) (n : M) (below others : Trees M) → Has (tree s x n below others) s x n below
  has_first s x n below others = inl (refl, refl, refl, refl)

  module _ (s x : ℕ) (n : M) (below : Trees M) where
    -- the trees of each part are trees of the union
    pub has_left : (f g : Trees M) → Has f s x n below → Has (f ∪ g) s x n below
    has_left bare g h = absurd h
    has_left (tree t y o under others) g (inl e) = inl e
    has_left (tree t y o under others) g (inr h) = inr (has_left others g h)

    pub has_right : (f g : Trees M) → Has g s x n below → Has (f ∪ g) s x n below
    has_right bare g h = h
    has_right (tree t y o under others) g h = inr (has_right others g h)

    -- a tree of a union is in one of the two
    pub from_∪ : (f g : Trees M) → Has (f ∪ g) s x n below → Has f s x n below ⊎ Has g s x n below
    from_∪ bare g h = inr h
    from_∪ (tree t y o under others) g (inl e) = inl (inl e)
    from_∪ (tree t y o under others) g (inr h) = elim (from_∪ others g h) [ inl k ↦ inl (inr k) | inr k ↦ inr k ]

  -- what holds of a set where it holds of every set below, holds of every set
  module _ (P : Trees M → Type 0)
      (step : (f : Trees M) → ((s x : ℕ) (n : M) (below : Trees M) → Has f s x n below → P below) → P f) where
    -- it holds of what is below each tree
    below_all : (f : Trees M) (s x : ℕ) (n : M) (below : Trees M) → Has f s x n below → P below
    below_all bare s x n below h = absurd h
    below_all (tree t y o under others) s x n below (inl e) = subst P e.3 (step under (below_all under))
    below_all (tree t y o under others) s x n below (inr h) = below_all others s x n below h

    -- and so of the set
    pub induction : (f : Trees M) → P f
    induction f = step f (below_all f)

-- matching by members
module _ {M N : Type 0} (Agree : M → N → Type 0) where
  -- each tree of the first set has a match in the second
  abbrev pub Forth : Trees M → Trees N → Type 0
  Forth f g = (s x : ℕ) (a : M) (below : Trees M) → Has f s x a below
      → (b : N) × (under : Trees N) × Has g s x b under × Agree a b × Match Agree below under

  -- each tree of the second set has a match in the first
  abbrev pub Back : Trees M → Trees N → Type 0
  Back f g = (s x : ℕ) (b : N) (under : Trees N) → Has g s x b under
      → (a : M) × (below : Trees M) × Has f s x a below × Agree a b × Match Agree below under

  -- the definition by going through the first set says the same as the one by members
  into_forth : (f : Trees M) (g : Trees N) → Forth f g → Into Agree f g
  into_forth bare g to = tt
  into_forth (tree s x a below others) g to =
      let r = to s x a below (has_first s x a below others) in (
        (r.0, r.1, r.2, r.3, r.4.into, r.4.onto),
        into_forth others g (λ t y b under h. to t y b under (inr h)),
      )

  forth_into : (f : Trees M) (g : Trees N) → Into Agree f g → Forth f g
  forth_into bare g i s x a below h = absurd h
  forth_into (tree t y o under others) g i s x a below (inl e) =
      let r = i.0 in
      let k : Match Agree under r.1 = record { into = r.4; onto = r.5 } in (
        r.0,
        r.1,
        subst (λ (z : ℕ). Has g s z r.0 r.1) e.1 (subst (λ (z : ℕ). Has g z y r.0 r.1) e.0 r.2),
        subst (λ (z : M). Agree z r.0) e.2 r.3,
        subst (λ (z : Trees M). Match Agree z r.1) e.3 k,
      )
  forth_into (tree t y o under others) g i s x a below (inr h) = forth_into others g i.1 s x a below h

  -- a tree is matched where some tree of the first set is its match
  matched_in : (f : Trees M) (s x : ℕ) (b : N) (under : Trees N) (a : M) (below : Trees M) → Has f s x a below
      → Agree a b → Match Agree below under → Matched Agree f s x b under
  matched_in bare s x b under a below h r k = absurd h
  matched_in (tree t y o deep others) s x b under a below (inl e) r k =
      let r' = subst (λ (z : M). Agree z b) (sym e.2) r in
      let k' = subst (λ (z : Trees M). Match Agree z under) (sym e.3) k in
      inl (e.0, e.1, r', k'.into, k'.onto)
  matched_in (tree t y o deep others) s x b under a below (inr h) r k =
      inr (matched_in others s x b under a below h r k)

  -- and only there
  from_matched : (f : Trees M) (s x : ℕ) (b : N) (under : Trees N) → Matched Agree f s x b under
      → (a : M) × (below : Trees M) × Has f s x a below × Agree a b × Match Agree below under
  from_matched bare s x b under h = absurd h
  from_matched (tree t y o deep others) s x b under (inl e) =
      (o, deep, inl (e.0, e.1, refl, refl), e.2, record { into = e.3; onto = e.4 })
  from_matched (tree t y o deep others) s x b under (inr h) =
      let r = from_matched others s x b under h in (r.0, r.1, inr r.2, r.3, r.4)

  -- sets match where each tree of either has a match in the other
  pub match_members : (f : Trees M) (g : Trees N) → Forth f g → Back f g → Match Agree f g
  match_members f g to from =
      record {
        into = into_forth f g to;
        onto = λ s x b under h.
            let r = from s x b under h in matched_in f s x b under r.0 r.1 r.2 r.3 r.4;
      }

  -- and where they match, each has
  pub match_forth : (f : Trees M) (g : Trees N) → Match Agree f g → Forth f g
  match_forth f g k = forth_into f g k.into

  pub match_back : (f : Trees M) (g : Trees N) → Match Agree f g → Back f g
  match_back f g k s x b under h = from_matched f s x b under (k.onto s x b under h)

  -- empty sets match
  pub match_bare : Match Agree bare bare
  match_bare = record { into = tt; onto = λ s x b under h. absurd h }

  -- single trees match where their marks agree and what is below matches
  pub match_tree : (s x : ℕ) (a : M) (b : N) (f : Trees M) (g : Trees N) → Agree a b → Match Agree f g
      → Match Agree (tree s x a f bare) (tree s x b g bare)
  match_tree s x a b f g r k =
      record {
        into = ((b, g, has_first s x b g bare, r, k.into, k.onto), tt);
        onto = λ t y c under h. elim h [
          | inl e ↦ inl (
            e.0,
            e.1,
            subst (λ (z : N). Agree a z) e.2 r,
            (subst (λ (z : Trees N). Match Agree f z) e.3 k).into,
            (subst (λ (z : Trees N). Match Agree f z) e.3 k).onto,
          )
          | inr z ↦ absurd z
        ];
      }

-- a set matches itself, where marks agree with themselves
pub match_refl : {M : Type 0} (R : M → M → Type 0) → ((a : M) → R a a) → (f : Trees M) → Match R f f
match_refl R r =
    induction (λ f. Match R f f) (λ f rec.
    match_members R f f (λ s x a below h. (a, below, h, r a, rec s x a below h))
    (λ s x a below h. (a, below, h, r a, rec s x a below h)))

-- turned round
pub match_sym : {M N : Type 0} (R : M → N → Type 0) (S : N → M → Type 0) → ((a : M) (b : N) → R a b → S b a)
    → (f : Trees M) (g : Trees N) → Match R f g → Match S g f
match_sym {M} {N} R S turn =
    induction (λ f. (g : Trees N) → Match R f g → Match S g f) (λ f rec g k.
    match_members S g f
    (λ s x b under h.
    let r = match_back R f g k s x b under h in
    (r.0, r.1, r.2, turn r.0 b r.3, rec s x r.0 r.1 r.2 under r.4))
    (λ s x a below h.
    let r = match_forth R f g k s x a below h in
    (r.0, r.1, r.2, turn a r.0 r.3, rec s x a below h r.1 r.4)))

-- one after the other
pub match_trans : {M N O : Type 0} (R : M → N → Type 0) (S : N → O → Type 0) (Q : M → O → Type 0)
    → ((a : M) (b : N) (c : O) → R a b → S b c → Q a c) → (f : Trees M) (g : Trees N) (h : Trees O)
    → Match R f g → Match S g h → Match Q f h
match_trans {M} {N} {O} R S Q thru =
    induction (λ f. (g : Trees N) (h : Trees O) → Match R f g → Match S g h → Match Q f h) (λ f rec g h k l.
    match_members Q f h
    (λ s x a below i.
    let p = match_forth R f g k s x a below i in
    let q = match_forth S g h l s x p.0 p.1 p.2 in
    (q.0, q.1, q.2, thru a p.0 q.0 p.3 q.3, rec s x a below i p.1 q.1 p.4 q.4))
    (λ s x c deep i.
    let q = match_back S g h l s x c deep i in
    let p = match_back R f g k s x q.0 q.1 q.2 in
    (p.0, p.1, p.2, thru p.0 q.0 c p.3 q.3, rec s x p.0 p.1 p.2 q.1 deep p.4 q.4)))

-- unions match where their parts do
pub match_∪ : {M N : Type 0} (R : M → N → Type 0) (f k : Trees M) (g h : Trees N) → Match R f g → Match R k h
    → Match R (f ∪ k) (g ∪ h)
match_∪ R f k g h p q =
    match_members R (f ∪ k) (g ∪ h)
    (λ s x a below i. elim (from_∪ s x a below f k i) [
      | inl j ↦ let r = match_forth R f g p s x a below j in
          (r.0, r.1, has_left s x r.0 r.1 g h r.2, r.3, r.4)
      | inr j ↦ let r = match_forth R k h q s x a below j in
          (r.0, r.1, has_right s x r.0 r.1 g h r.2, r.3, r.4)
    ])
    (λ s x b under i. elim (from_∪ s x b under g h i) [
      | inl j ↦ let r = match_back R f g p s x b under j in
          (r.0, r.1, has_left s x r.0 r.1 f k r.2, r.3, r.4)
      | inr j ↦ let r = match_back R k h q s x b under j in
          (r.0, r.1, has_right s x r.0 r.1 f k r.2, r.3, r.4)
    ])
