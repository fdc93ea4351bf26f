-- The lines that are reached: the asked line is, and so are the operands of each that is.
use Rattle.std.proofs.Common.{◌≡◌, ℕ, zero, suc, ◌+◌, ◌<◌, ◌≤◌, Bool, true, false, ◌&&◌, eqb, ltb, List, [], ◌∷◌, length, sym, refl, ap, ◌∙◌, subst, add-zero, arith, ◌||◌}
use native.Mathlib.Decide.{ℕ_discrete, dec_lt}
use Rattle.flow.specs.Facts.{Ordered}
use Rattle.flow.specs.Limits.{variables}
use Rattle.flow.specs.Line.{Line, predicate, and, or, not, exists, all_next, some_next, all_until, some_until}
use Rattle.flow.specs.Sheet.{right}
use Rattle.std.specs.List.{list_any}
use Rattle.kinds.specs.Member.{◌∈◌, here, there}
use Rattle.logic.specs.Reached.{line_at, marked_below, marking, operands, reached}
use Rattle.std.proofs.Math.Bool.{or-false}
use Rattle.logic.proofs.Members.{from_any, from_one, in_any}
use Rattle.std.proofs.lemmas.List.{get_or_past}
use Rattle.std.proofs.lemmas.Bool.{and_parts, eq-eqb, eqb-true, false_from_ne_true, ltb-true, or_left, or_right}

-- two operands that are below n
both_below : (n x y : ℕ) → (ltb x n && ltb y n) ≡ true → (a : ℕ) → a ∈ (x ∷ y ∷ []) → a < n
both_below n x y t a (here e) = let k = ltb-true x n (and_parts (ltb x n) (ltb y n) t).0 in omega arith
both_below n x y t a (there i) =
    let k = ltb-true y n (and_parts (ltb x n) (ltb y n) t).1 in
    let e = from_one i in
    omega arith

-- one operand that is
one_below : (n x : ℕ) → ltb x n ≡ true → (a : ℕ) → a ∈ (x ∷ []) → a < n
one_below n x t a i = let k = ltb-true x n t in let e = from_one i in omega arith

-- a line whose operands are right names earlier lines
names_earlier : (n : ℕ) (l : Line) → right n l ≡ true → (a : ℕ) → a ∈ operands l → a < n
names_earlier n (predicate p xs) t a i = elim i [ ]
names_earlier n (and x y) t a i = both_below n x y t a i
names_earlier n (or x y) t a i = both_below n x y t a i
names_earlier n (not x) t a i = one_below n x t a i
names_earlier n (exists x y) t a i = one_below n y (and_parts (ltb x variables) (ltb y n) t).1 a i
names_earlier n (all_next x) t a i = one_below n x t a i
names_earlier n (some_next x) t a i = one_below n x t a i
names_earlier n (all_until x y) t a i = both_below n x y t a i
names_earlier n (some_until x y) t a i = both_below n x y t a i

-- each wanted line among those from n on is right where it stands, and its operands are earlier and wanted
abbrev pub Wanting : (ℕ → Bool) → ℕ → List Line → Type 0
Wanting wanted n [] = Unit {0}
Wanting wanted n (l ∷ ls) =
    (wanted n ≡ true → (right n l ≡ true) × ((a : ℕ) → a ∈ operands l → (a < n) × (wanted a ≡ true)))
    × Wanting wanted (suc n) ls

module _ (ls : List Line) (ordered : Ordered ls) where
  -- so does every line of a sheet, and beyond its end there are none
  pub earlier_named : (i a : ℕ) → a ∈ operands (line_at ls i) → a < i
  earlier_named i a j = step (dec_lt i (length ls))
    where
      step : Dec (i < length ls) → a < i
      step (yes l) = names_earlier i (line_at ls i) (ordered i (predicate 0 []) l) a j
      step (no n) =
          elim (subst (λ (l : Line). a ∈ operands l) (get_or_past ls i (predicate 0 []) (omega arith)) j) [ ]

  -- a line that marks its operands takes no mark away
  marking_keeps : (b : Bool) (os : List ℕ) (marks : ℕ → Bool) (i : ℕ) → marks i ≡ true → marking b os marks i ≡ true
  marking_keeps false os marks i e = e
  marking_keeps true os marks i e = or_left (marks i) (list_any (eqb i) os) e

  -- and marks each of them
  marking_sets : (os : List ℕ) (marks : ℕ → Bool) (i : ℕ) → i ∈ os → marking true os marks i ≡ true
  marking_sets os marks i j = or_right (marks i) (list_any (eqb i) os) (in_any (eqb i) j (eq-eqb i i refl))

  -- marks stay
  marks_stay : (n : ℕ) (marks : ℕ → Bool) (i : ℕ) → marks i ≡ true → marked_below ls n marks i ≡ true
  marks_stay zero marks i e = e
  marks_stay (suc n) marks i e =
      marks_stay n (marking (marks n) (operands (line_at ls n)) marks) i
      (marking_keeps (marks n) (operands (line_at ls n)) marks i e)

  -- a line from n on gets no mark from lines below n
  marking_above : (b : Bool) (n i : ℕ) (marks : ℕ → Bool) → n ≤ i
      → marking b (operands (line_at ls n)) marks i ≡ marks i
  marking_above false n i marks l = refl
  marking_above true n i marks l =
      let os = operands (line_at ls n) in
      let none : list_any (eqb i) os ≡ false =
      false_from_ne_true (list_any (eqb i) os) (λ t.
      let a = from_any (eqb i) os t in
      let same = eqb-true i a.0 a.2 in
      let below = earlier_named n a.0 a.1 in
      omega arith) in
      ap (λ b. marks i || b) none ∙ or-false (marks i)

  -- nor in all lines below n
  marks_above : (n : ℕ) (marks : ℕ → Bool) (i : ℕ) → n ≤ i → marked_below ls n marks i ≡ marks i
  marks_above zero marks i l = refl
  marks_above (suc n) marks i l =
      marks_above n (marking (marks n) (operands (line_at ls n)) marks) i (omega arith)
      ∙ marking_above (marks n) n i marks (omega arith)

  -- a marked line below n has its operands marked
  marks_down : (n : ℕ) (marks : ℕ → Bool) (i a : ℕ) → i < n → marked_below ls n marks i ≡ true
      → a ∈ operands (line_at ls i) → marked_below ls n marks a ≡ true
  marks_down zero marks i a l e j = absurd (omega arith)
  marks_down (suc n) marks i a l e j =
      step (ℕ_discrete i n) (λ k. marks_down n (marking (marks n) (operands (line_at ls n)) marks) i a k e j)
    where
      os : List ℕ
      os = operands (line_at ls n)

      step : Dec (i ≡ n)
          → (i < n → marked_below ls n (marking (marks n) (operands (line_at ls n)) marks) a ≡ true)
          → marked_below ls n (marking (marks n) (operands (line_at ls n)) marks) a ≡ true
      step (no d) rec = rec (omega arith)
      step (yes q) rec =
          let own : marks n ≡ true =
          sym (marking_above (marks n) n n marks (omega arith))
          ∙ sym (marks_above n (marking (marks n) (operands (line_at ls n)) marks) n (omega arith))
          ∙ ap (marked_below ls n (marking (marks n) (operands (line_at ls n)) marks)) (sym q) ∙ e in
          marks_stay n (marking (marks n) (operands (line_at ls n)) marks) a
          (ap (λ (b : Bool). marking b (operands (line_at ls n)) marks a) own
          ∙ marking_sets (operands (line_at ls n)) marks a (subst (λ (k : ℕ). a ∈ operands (line_at ls k)) q j))

  -- the asked line is reached
  pub reached-asked : (asked : ℕ) → reached ls asked asked ≡ true
  unfolding reached
  reached-asked asked = marks_stay (suc asked) (eqb asked) asked (eq-eqb asked asked refl)

  -- no line after the asked one is reached
  reached_below : (asked i : ℕ) → reached ls asked i ≡ true → i ≤ asked
  unfolding reached
  reached_below asked i e = step (dec_lt asked i)
    where
      step : Dec (asked < i) → i ≤ asked
      step (no d) = omega arith
      step (yes l) =
          let same = eqb-true asked i (sym (marks_above (suc asked) (eqb asked) i (omega arith)) ∙ e) in
          absurd (omega arith)

  -- the operands of a line that is reached are reached
  pub reached-operands : (asked i a : ℕ) → reached ls asked i ≡ true → a ∈ operands (line_at ls i)
      → reached ls asked a ≡ true
  unfolding reached
  reached-operands asked i a e j =
      let l = reached_below asked i e in
      marks_down (suc asked) (eqb asked) i a (omega arith) e j

  -- one line of the sheet: it is right where it stands, and names earlier lines, which are reached too
  wanting_one : (asked n : ℕ) (l : Line) → line_at ls n ≡ l → n < length ls → reached ls asked n ≡ true
      → (right n l ≡ true) × ((a : ℕ) → a ∈ operands l → (a < n) × (reached ls asked a ≡ true))
  wanting_one asked n l at inside t = (
    ap (right n) (sym at) ∙ ordered n (predicate 0 []) inside,
    λ a i.
        let j = subst (λ (k : Line). a ∈ operands k) (sym at) i in
        (earlier_named n a j, reached-operands asked n a t j),
  )

  -- the lines from n on
  pub wanting_from : (asked n : ℕ) (back : List Line) → ((k : ℕ) → line_at back k ≡ line_at ls (n + k))
      → n + length back ≤ length ls → Wanting (reached ls asked) n back
  wanting_from asked n [] at inside = tt
  wanting_from asked n (l ∷ back) at inside = (
    wanting_one asked n l (ap (line_at ls) (sym (add-zero n)) ∙ sym (at 0)) (omega arith),
    wanting_from asked (suc n) back
        (λ k. let same : n + suc k ≡ suc n + k = omega arith in at (suc k) ∙ ap (line_at ls) same) (omega arith),
  )
