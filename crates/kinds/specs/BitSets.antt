-- The bits of a number as a set.
use Rattle.std.specs.Prelude.{◌≡◌, ℕ, ◌^◌, ◌<◌, ◌≤◌, false, ◌||◌, ◌==◌}
use Rattle.std.proofs.Common.{arith, inl, inr}
use Rattle.std.specs.Int.Bits.{bit_or}
use Rattle.std.proofs.lemmas.Bool.{cases_eq}
use Rattle.std.proofs.lemmas.Bool.Decides.{nat_tests}
use Rattle.std.proofs.lemmas.Nat.Bits.{bit_at-lt, bit_at-pow_other, bit_at-pow_same, bit_at_above, bit_at_or, same_from_bits}
use Rattle.kinds.specs.Fragments.{bit}

-- a union has what either has
pub bit-or : (a b k : ℕ) → bit (bit_or a b) k ≡ (bit a k || bit b k)
bit-or a b k = grind (arith, nat_tests, bit_at_or a b k, bit_at-lt a k, bit_at-lt b k)

-- a number below 2 ^ w has no bit from w on
pub bit_past : (a w k : ℕ) → a < 2 ^ w → w ≤ k → bit a k ≡ false
bit_past a w k h l = grind (arith, nat_tests, bit_at_above a w k h l)

-- a power of two is a set of one number
pub bit_pow : (a k : ℕ) → bit (2 ^ a) k ≡ (a == k)
bit_pow a k =
    elim (cases_eq k a) [
      | inl e ↦ rw e (grind (arith, nat_tests, bit_at-pow_same a))
      | inr n ↦ grind (arith, nat_tests, bit_at-pow_other a k n)
    ]

-- sets of the same numbers are the same
pub same_bits : (w a b : ℕ) → a < 2 ^ w → b < 2 ^ w → ((k : ℕ) → bit a k ≡ bit b k) → a ≡ b
same_bits w a b p q e =
    same_from_bits a b (λ k. grind (arith, nat_tests, e k, bit_at-lt a k, bit_at-lt b k))
