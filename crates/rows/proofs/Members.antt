-- The numbers of a forest.
use Rattle.std.proofs.Common.{◌≡◌, ℕ, ◌+◌, ◌*◌, ◌/◌, ◌%◌, ◌^◌, ◌<◌, true, false, ◌||◌, ◌↔◌, eqb, List, length, get_or, set, replicate, sym, refl, ap, ◌∙◌, inl, inr, arith}
use Rattle.kinds.specs.BitSets.{bit-or, bit_past, bit_pow, same_bits}
use Rattle.kinds.specs.Fragments.{bit}
use Rattle.rows.proofs.Words.{bit_none, either_assoc, getD_either, getD_zeros}
use Rattle.rows.specs.Forests.{alike, has, most_witnesses, none, single, union, words, word_bits}
use Rattle.rows.specs.declared.forest.Forest.{Forest}
use Rattle.std.proofs.lemmas.Nat.{div-mul-add, mod-mul-add}
use Rattle.std.proofs.lemmas.List.{ext_get_or, get_or-set_other, get_or-set_same}
use Rattle.std.proofs.lemmas.Bool.{cases_Bool, cases_eq, cases_lt, ne_eqb}
use Rattle.std.proofs.lemmas.Bool.Decides.{nat_tests}
use Rattle.std.proofs.lemmas.Slice.Eq.{bytes_eq-Decides}

-- no number is in none
pub has-none : (n : ℕ) → has none n ≡ false
unfolding has none
has-none n = ap (λ x. bit x (n % word_bits)) (getD_zeros words (n / word_bits)) ∙ bit_none (n % word_bits)

-- the word of a number, and its bit in it, tell the number
by_places : (n k : ℕ) → n / word_bits ≡ k / word_bits → eqb (n % word_bits) (k % word_bits) ≡ eqb k n
by_places n k e = grind (arith, nat_tests)

-- only n is in the forest of n alone
pub has-single : (n k : ℕ) → n < most_witnesses → has (single n) k ≡ eqb k n
unfolding has single
has-single n k h =
    let w = n / word_bits in
    let b = n % word_bits in
    let v = k / word_bits in
    let zeros : List ℕ = replicate words 0 in
    elim (cases_eq v w) [
      | inl e ↦
          ap (λ i. bit (get_or (set zeros w (2 ^ b)) i 0) (k % word_bits)) e
          ∙ ap (λ x. bit x (k % word_bits)) (get_or-set_same zeros w (2 ^ b) 0 (omega arith))
          ∙ bit_pow b (k % word_bits) ∙ by_places n k (sym e)
      | inr ne ↦
          ap (λ x. bit x (k % word_bits)) (get_or-set_other zeros w v (2 ^ b) 0 ne ∙ getD_zeros words v)
          ∙ bit_none (k % word_bits) ∙ sym (ne_eqb k n (λ e. ne (ap (λ m. m / word_bits) e)))
    ]

-- a number is in a union where it is in either forest
pub has-union : (f g : Forest) (n : ℕ) → has (union f g) n ≡ (has f n || has g n)
unfolding has union
has-union f g n =
    ap (λ x. bit x (n % word_bits)) (getD_either f.words g.words (n / word_bits))
    ∙ bit-or (get_or f.words (n / word_bits) 0) (get_or g.words (n / word_bits) 0) (n % word_bits)

-- unions group either way
pub union_assoc : (f g h : Forest) → union (union f g) h ≡ union f (union g h)
unfolding union
union_assoc f g h = ap (λ ws. record { words = ws }) (either_assoc f.words g.words h.words)

-- forests of the same words are equal
pub alike_equal : (f g : Forest) → alike f g ≡ true → f ≡ g
unfolding alike
alike_equal f g e = ap (λ ws. record { words = ws }) ((bytes_eq-Decides f.words g.words).0 e)

-- a forest has its own words
pub alike_refl : (f : Forest) → alike f f ≡ true
unfolding alike
alike_refl f = (bytes_eq-Decides f.words f.words).1 refl

-- equal forests have the same words
pub equal_alike : (f g : Forest) → f ≡ g → alike f g ≡ true
equal_alike f g e = ap (alike f) (sym e) ∙ alike_refl f

-- forests that differ in a word do not
pub alike_differs : (f g : Forest) (i : ℕ) → (get_or f.words i 0 ≡ get_or g.words i 0 → ⊥) → alike f g ≡ false
alike_differs f g i ne =
    elim (cases_Bool (alike f g)) [
      | inl e ↦ absurd (ne (ap (λ h. get_or h.words i 0) (alike_equal f g e)))
      | inr e ↦ e
    ]

-- forests that differ in no word are equal
pub equal_from_words : (f g : Forest) → length f.words ≡ length g.words
    → ((k : ℕ) → k < length f.words → get_or f.words k 0 ≡ get_or g.words k 0) → f ≡ g
equal_from_words f g long each = ap (λ ws. record { words = ws }) (ext_get_or 0 f.words g.words long each)

-- a word has the numbers that it stands for
has_at : (f : Forest) (i k : ℕ) → k < word_bits → has f (i * word_bits + k) ≡ bit (get_or f.words i 0) k
unfolding has
has_at f i k h =
    let n = i * word_bits + k in
    ap (λ w. bit (get_or f.words w 0) (n % word_bits)) (div-mul-add i word_bits k h)
    ∙ ap (bit (get_or f.words i 0)) (mod-mul-add i word_bits k h)

-- a word is known by the numbers that it stands for
pub word_from_members : (f g : Forest) (i : ℕ)
    → get_or f.words i 0 < 2 ^ word_bits → get_or g.words i 0 < 2 ^ word_bits
    → ((n : ℕ) → has f n ≡ has g n) → get_or f.words i 0 ≡ get_or g.words i 0
word_from_members f g i p q same = same_bits word_bits _ _ p q each
  where
    each : (k : ℕ) → bit (get_or f.words i 0) k ≡ bit (get_or g.words i 0) k
    each k =
        elim (cases_lt k word_bits) [
          | inl h ↦ sym (has_at f i k h) ∙ same (i * word_bits + k) ∙ has_at g i k h
          | inr h ↦ bit_past _ word_bits k p h ∙ sym (bit_past _ word_bits k q h)
        ]

-- forests of as many words have the same words exactly where they have the same members
pub alike_members : (f g : Forest) → length f.words ≡ length g.words
    → ((i : ℕ) → get_or f.words i 0 < 2 ^ word_bits) → ((i : ℕ) → get_or g.words i 0 < 2 ^ word_bits)
    → (alike f g ≡ true) ↔ ((n : ℕ) → has f n ≡ has g n)
unfolding alike
alike_members f g long p q =
    let words_are = bytes_eq-Decides f.words g.words in (
      λ e n. ap (λ ws. has (record { words = ws }) n) (words_are.0 e),
      λ same. words_are.1 (ext_get_or 0 f.words g.words long (λ i _. word_from_members f g i (p i) (q i) same)),
    )
