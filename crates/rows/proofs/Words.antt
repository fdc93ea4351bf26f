-- Words, each a set of numbers by its bits, taken together place by place.
use Rattle.std.proofs.Common.{◌≡◌, ℕ, zero, suc, ◌+◌, ◌<◌, ◌≤◌, false, List, [], ◌∷◌, ◌++◌, length, get_or, take, drop, set, replicate, sym, refl, ap, ◌∙◌, arith}
use lib.Bits.{bit_or, or_zero_l, or_zero_r}
use Rattle.kinds.specs.BitSets.{bit_past}
use Rattle.kinds.specs.Fragments.{bit}
use Rattle.rows.specs.Forests.{either}
use Rattle.std.proofs.lemmas.List.{append_assoc, append-nil, drop_all, drop_more, drop-set-lt, ext_get_or, take_all, take_more_set}
use Rattle.std.proofs.lemmas.Nat.Bits.{bit_at_or, same_from_bits}

-- the word 0 has no number
pub bit_none : (k : ℕ) → bit 0 k ≡ false
bit_none k = bit_past 0 0 k (omega arith) (omega arith)

-- each of so many words 0 is 0
pub getD_zeros : (n i : ℕ) → get_or (replicate n zero) i 0 ≡ 0
getD_zeros zero i = refl
getD_zeros (suc n) zero = refl
getD_zeros (suc n) (suc i) = getD_zeros n i

-- a word of both
pub getD_either : (xs ys : List ℕ) (i : ℕ) → get_or (either xs ys) i 0 ≡ bit_or (get_or xs i 0) (get_or ys i 0)
getD_either [] ys i = sym (or_zero_l (get_or ys i 0))
getD_either (x ∷ xs) [] i = sym (or_zero_r (get_or (x ∷ xs) i 0))
getD_either (x ∷ xs) (y ∷ ys) zero = refl
getD_either (x ∷ xs) (y ∷ ys) (suc i) = getD_either xs ys i

-- words of three, in either grouping
pub or_assoc : (a b c : ℕ) → bit_or (bit_or a b) c ≡ bit_or a (bit_or b c)
or_assoc a b c = same_from_bits _ _ (λ k. grind (arith, bit_at_or))

-- lists of words of three, in either grouping
pub either_assoc : (xs ys zs : List ℕ) → either (either xs ys) zs ≡ either xs (either ys zs)
either_assoc [] ys zs = refl
either_assoc (x ∷ xs) [] zs = refl
either_assoc (x ∷ xs) (y ∷ ys) [] = refl
either_assoc (x ∷ xs) (y ∷ ys) (z ∷ zs) = rw (or_assoc, either_assoc xs ys zs)

-- as many words as in both
length-either : (xs ys : List ℕ) → length xs ≡ length ys → length (either xs ys) ≡ length xs
length-either [] [] e = refl
length-either [] (y ∷ ys) e = cc
length-either (x ∷ xs) [] e = cc
length-either (x ∷ xs) (y ∷ ys) e = ap suc (length-either xs ys (omega (arith, e)))

-- words of which each is the two of its place taken together
pub words-either : (xs ys zs : List ℕ) → length xs ≡ length ys → length zs ≡ length xs
    → ((i : ℕ) → i < length zs → get_or zs i 0 ≡ bit_or (get_or xs i 0) (get_or ys i 0)) → zs ≡ either xs ys
words-either xs ys zs same long each =
    ext_get_or 0 zs (either xs ys) (long ∙ sym (length-either xs ys same))
    (λ i h. each i h ∙ sym (getD_either xs ys i))

module _ (xs ys : List ℕ) (i : ℕ) where
  -- the next two words are taken together
  pub either_more : i < length xs → i < length ys
      → take i xs ++ either (drop i xs) (drop i ys)
      ≡ take (i + 1) (set xs i (bit_or (get_or xs i 0) (get_or ys i 0)))
      ++ either (drop (i + 1) (set xs i (bit_or (get_or xs i 0) (get_or ys i 0)))) (drop (i + 1) ys)
  either_more hx hy =
      let x = bit_or (get_or xs i 0) (get_or ys i 0) in
      let below : i < i + 1 = omega arith in
      rw (drop_more xs i 0 hx, drop_more ys i 0 hy, take_more_set xs i x hx, drop-set-lt (i + 1) xs i x below)
      (sym (append_assoc (take i xs) (x ∷ []) _))

  -- past the last word, all are
  pub either_all : length xs ≤ i → length ys ≤ i → take i xs ++ either (drop i xs) (drop i ys) ≡ xs
  either_all hx hy = rw (drop_all i xs hx, drop_all i ys hy, take_all i xs hx) (append-nil xs)
