-- Forests: sets of witness numbers, held as the bits of four words. Bit k of the word w stands for 64 w + k.
use Rattle.std.specs.Prelude.{ℕ, ◌*◌, ◌/◌, ◌%◌, ◌^◌, Bool, List, [], ◌∷◌, replicate, bit_or, ◌==◌, slice_index, slice_set}
use Rattle.std.specs.Cmp.Lexicographic.{pointwise}
use Rattle.kinds.specs.Fragments.{bit}
use Rattle.rows.specs.declared.forest.Forest.{Forest}

abbrev pub words : ℕ
words = 4

abbrev pub word_bits : ℕ
word_bits = 64

-- a forest can have the numbers below this
abbrev pub most_witnesses : ℕ
most_witnesses = words * word_bits

-- the number n is in
unfoldable pub has : Forest → ℕ → Bool
has f n = bit (slice_index f.words (n / word_bits)) (n % word_bits)

-- no number is in
unfoldable pub none : Forest
none = record { words = replicate words 0 }

-- the number n alone is in
unfoldable pub single : ℕ → Forest
single n = record { words = slice_set (replicate words 0) (n / word_bits) (2 ^ (n % word_bits)) }

-- two lists of words, each pair made one
abbrev pub either : List ℕ → List ℕ → List ℕ
either [] ys = ys
either (x ∷ xs) [] = x ∷ xs
either (x ∷ xs) (y ∷ ys) = bit_or x y ∷ either xs ys

-- the numbers of both are in
unfoldable pub union : Forest → Forest → Forest
union f g = record { words = either f.words g.words }

-- both have the same words
unfoldable pub alike : Forest → Forest → Bool
alike f g = pointwise ◌==◌ f.words g.words
