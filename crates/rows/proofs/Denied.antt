-- A walk through the denial of a row.
use Rattle.std.proofs.Common.{subst, ◌≡◌, ℕ, zero, suc, ◌+◌, ◌-◌, ◌<◌, ◌≤◌, Bool, true, false, not, cond, ◌==◌, List, [], ◌∷◌, ◌++◌, map, get_or, drop, length, Option, Some, None, MatchOption, sym, refl, ap, ◌∙◌, inl, inr, arith}
use Rattle.flow.specs.Limits.{variables}
use Rattle.kinds.specs.Laws.{Laws}
use Rattle.kinds.specs.Model.{Model}
use Rattle.rows.specs.Denials.{besides, besides_from, besides_left, elsewhere, elsewhere_left, left}
use Rattle.rows.specs.Rows.{blank, box, with_box}
use Rattle.rows.specs.declared.row.Row.{Row}
use Rattle.std.proofs.lemmas.List.{get_or_default, length-map}
use Rattle.std.proofs.lemmas.Option.{slice_get_past}
use Rattle.std.proofs.lemmas.Bool.{cases_lt, eq-eqb, le-ltb, lt-ltb, ne_eqb}
use Rattle.std.specs.List.{FoldsTo, range_with_len, flat_map, slice_get}
use Rattle.std.specs.Iterator.{MakesProgress, Yields, YieldsFirst, YieldsThen, item_count}
use Rattle.rows.specs.declared.denial.Denial.{Denial}
use Rattle.std.specs.Bool.{⊤}
use Rattle.std.specs.Fn.{CalledAt}
use Rattle.std.proofs.iter.Yields.{nat_range_steps}
use Rattle.std.specs.declared.ops.Range.{Range}
use denote.Param.Members.{Mut}
use denote.Ref.{Bor}

module _ {X Y : Type 0} (f : X → Y) where
  -- what stands at a place has its image there
  nth_map-some : (xs : List X) (i : ℕ) (x : X) → slice_get xs i ≡ Some x → slice_get (map f xs) i ≡ Some (f x)
  nth_map-some [] i x e = cc
  nth_map-some (y ∷ ys) zero x e = cc
  nth_map-some (y ∷ ys) (suc i) x e = nth_map-some ys i x e

  -- where nothing stands, no image does
  nth_map-none : (xs : List X) (i : ℕ) → slice_get xs i ≡ None → slice_get (map f xs) i ≡ None
  nth_map-none [] i e = refl
  nth_map-none (y ∷ ys) zero e = cc
  nth_map-none (y ∷ ys) (suc i) e = nth_map-none ys i e

-- what stands at a place comes first from there on
drop_nth : {X : Type 0} (xs : List X) (i : ℕ) (x : X) → slice_get xs i ≡ Some x → drop i xs ≡ x ∷ drop (i + 1) xs
drop_nth [] i x e = cc
drop_nth (y ∷ ys) zero x e = cc
drop_nth (y ∷ ys) (suc i) x e =
    let k : suc i + 1 ≡ suc (i + 1) = omega arith in
    rw k (drop_nth ys i x e)

-- from a place where nothing stands on, there is nothing
drop_nth_none : {X : Type 0} (xs : List X) (i : ℕ) → slice_get xs i ≡ None → drop i xs ≡ []
drop_nth_none [] zero e = refl
drop_nth_none [] (suc i) e = refl
drop_nth_none (y ∷ ys) zero e = cc
drop_nth_none (y ∷ ys) (suc i) e = drop_nth_none ys i e

-- lists for the numbers of a range, one after the other
module _ {A : Type 0} (f : ℕ → List A) where
  abbrev pub joined : Range ℕ → List A
  joined s = flat_map f (range_with_len s.start (s.end - s.start))

  -- the first number's list comes first
  pub joined_more : (s t : Range ℕ) (x : ℕ) → nat_range_steps s (Some x) t → joined s ≡ f x ++ joined t
  joined_more s t x h =
      let more : s.end - s.start ≡ suc (t.end - t.start) = omega arith in
      rw (more, h.1.1, h.1.2) refl

  -- where no number is left, nothing is
  pub joined_all : (s t : Range ℕ) → nat_range_steps s None t → (joined s ≡ []) × (joined t ≡ [])
  joined_all s t h =
      let over : s.end - s.start ≡ 0 = h.1.0 in
      let done : t.end - t.start ≡ 0 = omega arith in
      (rw over refl, rw done refl)

  -- a test that numbers with an empty list do not pass, and that those with a list of one pass
  module _ {F : Type 0} (g : Mut F (Bor ℕ × Unit {0}) Bool) (p : F) (test : ℕ → Bool) (y : ℕ → A)
      (calls : (x : ℕ) (b : Bool) (q : F) → CalledAt g p x b q → (q ≡ p) × (b ≡ test x))
      (empty : (x : ℕ) → test x ≡ false → f x ≡ []) (one : (x : ℕ) → test x ≡ true → f x ≡ y x ∷ []) where
    -- numbers that did not pass had empty lists
    passed : (xs : List ℕ) (s t : Range ℕ) (q : F) → Yields nat_range_steps s xs t
        → FoldsTo (λ o x r. CalledAt g o x false r) p xs q → (joined s ≡ joined t) × (q ≡ p)
    passed [] s t q ys folds = (ap joined ys, sym folds)
    passed (x ∷ xs) s t q ys folds =
        let call = calls x false folds.0 folds.1 in
        let others = subst (λ o. FoldsTo (λ r n r'. CalledAt g r n false r') o xs q) call.0 folds.2 in
        let later = passed xs ys.0 t q ys.2 others in (
          joined_more s ys.0 x ys.1 ∙ ap (λ front. front ++ joined ys.0) (empty x (sym call.1)) ∙ later.0,
          later.1,
        )

    -- so a `find` among them gives the next of what is joined
    pub joined_find : (s u : Range ℕ) (r : Option ℕ)
        → (xs : List ℕ) × (q : F) × YieldsThen nat_range_steps s xs r u
        × FoldsTo (λ o x o'. CalledAt g o x false o') p xs q × MatchOption r ⊤ (λ x. (h : F) × CalledAt g q x true h)
        → MatchOption r ((joined s ≡ []) × (joined u ≡ [])) (λ x. joined s ≡ y x ∷ joined u)
    joined_find s u None h =
        let over = joined_all h.2.0 u h.2.2 in
        ((passed h.0 s h.2.0 h.1 h.2.1 h.3).0 ∙ over.0, over.1)
    joined_find s u (Some x) h =
        let before = passed h.0 s h.2.0 h.1 h.2.1 h.3 in
        let call = calls x true h.4.0 (subst (λ q. CalledAt g q x true h.4.0) before.1 h.4.1) in
        before.0 ∙ joined_more h.2.0 u x h.2.2 ∙ ap (λ front. front ++ joined u) (one x (sym call.1))

-- nothing is said of the row's own state, and something of every other
module _ {A : Type 0} (rows : List A) where
  own_state : (own : Bool) → not own ≡ false → cond own [] rows ≡ []
  own_state true e = refl
  own_state false e = cc

  other_state : (own : Bool) → not own ≡ true → cond own [] rows ≡ rows
  other_state true e = cc
  other_state false e = refl

-- the first other state of a range, where a test finds it
module _ {B : Type 0} (m : Model B) (t : Row B) {F : Type 0} (g : Mut F (Bor ℕ × Unit {0}) Bool) (p : F)
    (calls : (x : ℕ) (b : Bool) (q : F) → CalledAt g p x b q → (q ≡ p) × (b ≡ not (x == t.state))) where
  pub elsewhere_find : (s u : Range ℕ) (r : Option ℕ)
      → (xs : List ℕ) × (q : F) × YieldsThen nat_range_steps s xs r u
      × FoldsTo (λ o x o'. CalledAt g o x false o') p xs q × MatchOption r ⊤ (λ x. (h : F) × CalledAt g q x true h)
      → MatchOption r ((joined (elsewhere m t) s ≡ []) × (joined (elsewhere m t) u ≡ []))
      (λ x. joined (elsewhere m t) s ≡ blank m x ∷ joined (elsewhere m t) u)
  elsewhere_find =
      joined_find (elsewhere m t) g p (λ x. not (x == t.state)) (blank m) calls
      (λ x e. own_state (blank m x ∷ []) (x == t.state) e) (λ x e. other_state (blank m x ∷ []) (x == t.state) e)

module _ {B : Type 0} (m : Model B) (t : Row B) (x past : ℕ) where
  -- a piece of the box that was read has its row
  pub beside_some : (d c : B) → x < length t.boxes → Some c ≡ slice_get (m.pieces (get_or t.boxes x d)) past
      → Some (with_box m (blank m t.state) x c) ≡ slice_get (besides m t x) past
  beside_some d c h e =
      let read = get_or_default t.boxes x m.all d h in
      sym (nth_map-some _ (m.pieces (box m t x)) past c (ap (λ b. slice_get (m.pieces b) past) read ∙ sym e))

  -- past its last piece there is none
  pub beside_none : (d : B) → x < length t.boxes → None ≡ slice_get (m.pieces (get_or t.boxes x d)) past
      → None ≡ slice_get (besides m t x) past
  beside_none d h e =
      let read = get_or_default t.boxes x m.all d h in
      sym (nth_map-none _ (m.pieces (box m t x)) past (ap (λ b. slice_get (m.pieces b) past) read ∙ sym e))

  -- a piece of this box is left, and then the later ones
  pub besides_piece : (r : Row B) → x < variables → slice_get (besides m t x) past ≡ Some r
      → besides_from m t x past ≡ r ∷ besides_from m t x (past + 1)
  besides_piece r h e = rw (lt-ltb x variables h, drop_nth (besides m t x) past r e)

  -- no piece of this box is left, and the next box is whole
  pub besides_next : x < variables → slice_get (besides m t x) past ≡ None
      → besides_from m t x past ≡ besides_from m t (x + 1) 0
  besides_next h e =
      let next : Range ℕ = record { start = x + 1; end = variables } in
      let later : Range ℕ = record { start = x + 1 + 1; end = variables } in
      rw (lt-ltb x variables h, drop_nth_none (besides m t x) past e) (
      elim (cases_lt (x + 1) variables) [
        | inl l ↦
            rw (lt-ltb (x + 1) variables l)
            (joined_more (besides m t) next later (x + 1) (refl, (omega arith, refl, refl)))
        | inr l ↦
            let over : variables - (x + 1) ≡ 0 = omega arith in
            rw (le-ltb (x + 1) variables l) (joined_all (besides m t) next next (refl, (over, refl))).0
      ])

  -- no box has more pieces than the kind says
  pub besides-past : Laws m → m.most ≤ past → slice_get (besides m t x) past ≡ None
  besides-past laws h =
      let few = laws.pieces_most (box m t x) in
      let as_many = length-map (m.pieces (box m t x)) (λ c. with_box m (blank m t.state) x c) in
      slice_get_past (besides m t x) past (omega arith)

-- no other state is to come: what is left is left of the row's own state
pub left_beside : {K B : Type 0} (m : Model B) (d e : Denial K B) (r : Option (Row B)) → elsewhere_left m d ≡ []
    → elsewhere_left m e ≡ [] → YieldsFirst (besides_left m) d r e → YieldsFirst (left m) d r e
unfolding left
left_beside m d e None here there step = (rw (here, step.0) refl, rw (there, step.1) refl)
left_beside m d e (Some row) here there step = rw (here, there) step

-- the walk, once it has come to the state s
abbrev pub come_to : {K B : Type 0} → ℕ → Denial K B → Denial K B
come_to s d = record {
  of = d.of;
  states = record { start = s; end = d.states.end };
  variable = d.variable;
  piece = d.piece;
}

-- the walk, once it has come to the piece i of the box of x
abbrev pub come_beside : {K B : Type 0} → ℕ → ℕ → Denial K B → Denial K B
come_beside x i d = record { of = d.of; states = d.states; variable = x; piece = i }

-- a state is the next to come
module _ {K B : Type 0} (m : Model B) (d : Denial K B) (s : ℕ) (e : d.states.start ≡ s) (h : s < d.states.end) where
  -- its rows, and those of the states after it
  elsewhere_more : elsewhere_left m d ≡ elsewhere m d.of s ++ elsewhere_left m (come_to (s + 1) d)
  elsewhere_more =
      let k : d.states.end - s ≡ suc (d.states.end - (s + 1)) = omega arith in
      rw e (ap (λ n. flat_map (elsewhere m d.of) (range_with_len s n)) k)

  -- the blank row of another state
  pub left_elsewhere : (r : Row B) → r ≡ blank m s → (s ≡ d.of.state → ⊥) → left m d ≡ r ∷ left m (come_to (s + 1) d)
  unfolding left
  left_elsewhere r b ne = rw (b, elsewhere_more, ne_eqb s d.of.state ne)

  -- the row's own state is passed over
  pub left_own : s ≡ d.of.state → left m d ≡ left m (come_to (s + 1) d)
  unfolding left
  left_own own = rw (elsewhere_more, eq-eqb s d.of.state own)

-- no other state is to come
module _ {K B : Type 0} (m : Model B) (d : Denial K B) (h : d.states.end ≤ d.states.start) where
  -- what the boxes leave out is left
  left_besides : (x i : ℕ) → left m (come_beside x i d) ≡ besides_from m d.of x i
  unfolding left
  left_besides x i =
      let k : d.states.end - d.states.start ≡ 0 = omega arith in
      ap (λ n. flat_map (elsewhere m d.of) (range_with_len d.states.start n) ++ besides_from m d.of x i) k

  -- a row with a piece of the box at hand
  pub left_piece : (r : Row B) → d.variable < variables → slice_get (besides m d.of d.variable) d.piece ≡ Some r
      → left m d ≡ r ∷ left m (come_beside d.variable (d.piece + 1) d)
  left_piece r l e =
      left_besides d.variable d.piece ∙ besides_piece m d.of d.variable d.piece r l e
      ∙ ap (λ rest. r ∷ rest) (sym (left_besides d.variable (d.piece + 1)))

  -- the box at hand has no piece left
  pub left_next : d.variable < variables → slice_get (besides m d.of d.variable) d.piece ≡ None
      → left m d ≡ left m (come_beside (d.variable + 1) 0 d)
  left_next l e =
      left_besides d.variable d.piece ∙ besides_next m d.of d.variable d.piece l e
      ∙ sym (left_besides (d.variable + 1) 0)

  -- no box is left
  pub left_all : variables ≤ d.variable → left m d ≡ []
  left_all l = left_besides d.variable d.piece ∙ rw (le-ltb d.variable variables l)

-- a step that gives the first of what is left leaves less
pub nearer_end : {S A : Type 0} (rest : S → List A) (s t : S) (r : Option A) → YieldsFirst rest s r t
    → MakesProgress (λ _. ⊤) (item_count rest) s r t
nearer_end rest s t None step = record { on = λ _. tt; keeps = tt; rests = λ _. tt }
nearer_end rest s t (Some x) step =
    let less = ap length step in record { on = λ _. (tt, tt, omega arith); keeps = tt; rests = λ _. tt }
