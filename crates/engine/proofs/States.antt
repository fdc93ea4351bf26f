-- Loops over the states, which are the numbers from 0 on.
use Rattle.std.proofs.Common.{◌≡◌, ℕ, ◌<◌, get_or, arith}
use Rattle.std.proofs.lemmas.List.FromFn.{get_or-range_with_len}
use Rattle.std.specs.List.{range_with_len}

-- the i-th of the numbers from 0 is i
pub counted : (n i : ℕ) → i < n → i ≡ get_or (range_with_len 0 n) i i
counted n i below = let e = get_or-range_with_len 0 n i i below in omega arith
