-- Marks on lines: in a table of truth values, and as the definitions set them.
use Rattle.std.proofs.Common.{◌≡◌, ℕ, zero, suc, ◌<◌, Bool, true, false, ◌&&◌, ◌||◌, eqb, ltb, ◌⊎◌, List, [], ◌∷◌, ◌++◌, map, length, take, drop, get_or, set, replicate, sym, refl, ap, ◌∙◌, inl, inr, add-one, arith, length-set}
use mathlib.Core.Path.{fun_ext}
use Rattle.flow.specs.Facts.{Ordered}
use Rattle.flow.specs.Limits.{most_lines}
use Rattle.flow.specs.Held.{line_of}
use Rattle.flow.specs.Line.{Line, predicate}
use Rattle.flow.specs.declared.line.Line as written
use Rattle.std.specs.List.{list_all}
use Rattle.kinds.specs.Member.{◌∈◌, here, there}
use Rattle.logic.proofs.Reaching.{earlier_named}
use Rattle.logic.specs.Reached.{line_at, marked_below, marking, operands}
use Rattle.engine.specs.Marks.{marked}
use Rattle.std.proofs.lemmas.List.{length-append, get_or-map, get_or-set_other, get_or-set_same}
use Rattle.std.proofs.lemmas.Bool.{and_parts, cases_eq, eq-eqb, lt-ltb, ltb-true, ne_eqb}

or_last : (a : Bool) → (a || (true || false)) ≡ true
or_last true = refl
or_last false = refl

or_none : (a : Bool) → (a || (false || false)) ≡ a
or_none true = refl
or_none false = refl

or_two : (a b c : Bool) → ((a || (b || false)) || (c || false)) ≡ (a || (b || (c || false)))
or_two true b c = refl
or_two false true c = refl
or_two false false c = refl

-- one mark set
mark_one_at : (ms : List Bool) (a i : ℕ) → a < length ms
    → marked (set ms a true) i ≡ marking true (a ∷ []) (marked ms) i
mark_one_at ms a i l = elim (cases_eq i a) [
  | inl e ↦
      ap (marked (set ms a true)) e ∙ get_or-set_same ms a true false l ∙ sym (or_last (marked ms i))
      ∙ ap (λ b. marked ms i || (b || false)) (sym (eq-eqb i a e))
  | inr d ↦
      get_or-set_other ms a i true false d ∙ sym (or_none (marked ms i))
      ∙ ap (λ b. marked ms i || (b || false)) (sym (ne_eqb i a d))
]

-- two marks set
pub mark_two : (ms : List Bool) (a b : ℕ) → a < length ms → b < length ms
    → marked (set (set ms a true) b true) ≡ marking true (a ∷ b ∷ []) (marked ms)
mark_two ms a b l k =
    let size = length-set ms a true in
    fun_ext (λ i.
    mark_one_at (set ms a true) b i (omega arith) ∙ ap (λ c. c || (eqb i b || false)) (mark_one_at ms a i l)
    ∙ or_two (marked ms i) (eqb i a) (eqb i b))

-- the operands of a line marked, where they are two
pub mark_operands : (ms : List Bool) (os : List ℕ) (a b : ℕ) → length ms ≡ most_lines → os ≡ a ∷ b ∷ []
    → list_all (λ x. ltb x most_lines) os ≡ true → marked (set (set ms a true) b true) ≡ marking true os (marked ms)
mark_operands ms os a b size two small =
    let h = and_parts (ltb a most_lines) _ (ap (list_all (λ x. ltb x most_lines)) (sym two) ∙ small) in
    let k = and_parts (ltb b most_lines) true h.1 in
    let l = ltb-true a most_lines h.0 in
    let r = ltb-true b most_lines k.0 in
    mark_two ms a b (omega arith) (omega arith) ∙ ap (λ xs. marking true xs (marked ms)) (sym two)

module _ (ls : List Line) (ordered : Ordered ls) where
  -- the operands of a line of the sheet are lines of the sheet
  pub operands_small : (i : ℕ) → i < most_lines → list_all (λ x. ltb x most_lines) (operands (line_at ls i)) ≡ true
  operands_small i l = go (operands (line_at ls i)) (λ a j. earlier_named ls ordered i a j)
    where
      go : (os : List ℕ) → ((a : ℕ) → a ∈ os → a < i) → list_all (λ x. ltb x most_lines) os ≡ true
      go [] below = refl
      go (a ∷ os) below =
          let k = below a (here refl) in
          ap (λ b. b && list_all (λ x. ltb x most_lines) os) (lt-ltb a most_lines (omega arith))
          ∙ go os (λ x j. below x (there j))

  -- one line more is marked from, or is not marked
  pub marks_more : (ms ns : List Bool) (i : ℕ) → marked ms i ≡ true
      → marked ns ≡ marking true (operands (line_at ls i)) (marked ms)
      → marked_below ls i (marked ns) ≡ marked_below ls (suc i) (marked ms)
  marks_more ms ns i t e =
      ap (marked_below ls i) (e ∙ ap (λ b. marking b (operands (line_at ls i)) (marked ms)) (sym t))

  pub marks_pass : (ms : List Bool) (i : ℕ) → marked ms i ≡ false
      → marked_below ls i (marked ms) ≡ marked_below ls (suc i) (marked ms)
  marks_pass ms i t = ap (marked_below ls i) (ap (λ b. marking b (operands (line_at ls i)) (marked ms)) (sym t))

-- only the asked line marked
pub mark_asked : (asked : ℕ) → asked < most_lines → marked (set (replicate most_lines false) asked true) ≡ eqb asked
mark_asked asked l = fun_ext (λ i. at i (cases_eq i asked))
  where
    none : (n i : ℕ) → marked (replicate n false) i ≡ false
    none zero i = refl
    none (suc n) zero = refl
    none (suc n) (suc i) = none n i

    at : (i : ℕ) → (i ≡ asked) ⊎ (i ≡ asked → ⊥) → marked (set (replicate most_lines false) asked true) i ≡ eqb asked i
    at i (inl e) =
        ap (marked (set (replicate most_lines false) asked true)) e
        ∙ get_or-set_same (replicate most_lines false) asked true false l ∙ sym (eq-eqb asked i (sym e))
    at i (inr d) =
        get_or-set_other (replicate most_lines false) asked i true false d ∙ none most_lines i
        ∙ sym (ne_eqb asked i (λ e. d (sym e)))

-- a line that is read stands on the sheet
pub read_line : (ls : List written.Line) (i : ℕ) (l : written.Line) → i < length ls → l ≡ get_or ls i l
    → line_of l ≡ line_at (map line_of ls) i
read_line ls i l inside e = ap line_of e ∙ sym (get_or-map line_of ls i l (predicate 0 []) inside)

module _ {A : Type 0} where
  -- what stands behind the others is the next that they do not have
  last_read : (zs ls : List A) (x : A) → zs ++ (x ∷ []) ≡ take (suc (length zs)) ls
      → (zs ≡ take (length zs) ls) × (x ≡ get_or ls (length zs) x) × (length zs < length ls)
  last_read [] [] x e = cc
  last_read [] (l ∷ ls) x e = (refl, cc, omega arith)
  last_read (z ∷ zs) [] x e = cc
  last_read (z ∷ zs) (l ∷ ls) x e =
      let rest = last_read zs ls x (ap (drop 1) e) in
      let first : z ≡ l = cc in
      (rw (first, ← rest.0) refl, rest.1, omega (arith, rest.2))

  -- the last of the lines at the front is read: the others are at the front, and it stood behind them
  pub read_last : (xs zs ls : List A) (x : A) → xs ≡ take (length xs) ls → xs ≡ zs ++ (x ∷ [])
      → (zs ≡ take (length zs) ls) × (x ≡ get_or ls (length zs) x) × (length zs < length ls)
      × (length xs ≡ suc (length zs))
  read_last xs zs ls x front last =
      let size : length xs ≡ suc (length zs) = ap length last ∙ length-append zs (x ∷ []) ∙ add-one (length zs) in
      let read = last_read zs ls x (sym last ∙ front ∙ ap (λ n. take n ls) size) in
      (read.0, read.1, read.2, size)
