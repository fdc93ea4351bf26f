-- The amounts: a box runs from a lowest to a highest number.
use Rattle.std.specs.Prelude.{ℕ, ◌+◌, ◌-◌, min, max, Bool, cond, ◌&&◌, List, [], ◌∷◌, ◌++◌, Some, None, Option, ◌==◌, nat_le, nat_lt}
use Rattle.std.proofs.Common.{arith}
use Rattle.kinds.specs.Highest.{highest}
use Rattle.kinds.specs.Model.{Model}
use Rattle.kinds.specs.declared.amounts.span.Span.{Span}

-- from low to high, where these are amounts in this order (for others nothing asks)
abbrev pub span : ℕ → ℕ → Span
span low high = record {
  low = min low (min high highest);
  high = min high highest;
  ordered = omega arith;
  bounded = omega arith;
}

-- n lies in the span
abbrev pub inside : Span → ℕ → Bool
inside b n = nat_le b.low n && nat_le n b.high

-- from the higher of the low ends to the lower of the high ends, where those are in this order
abbrev pub common : Span → Span → Option Span
common a b =
    let low = max a.low b.low in
    let high = min a.high b.high in
    cond (nat_le low high) (Some (span low high)) None

-- what lies below the span, if anything
abbrev pub below : Span → List Span
below b = cond (b.low == 0) [] (span 0 (b.low - 1) ∷ [])

-- what lies above the span, if anything
abbrev pub above : Span → List Span
above b = cond (nat_lt b.high highest) (span (b.high + 1) highest ∷ []) []

-- every amount is a value, and nameable
abbrev pub amounts : Model Span
amounts = record {
  value = λ n. nat_le n highest;
  nameable = λ n. nat_le n highest;
  allows = inside;
  one = λ n. cond (nat_le n highest) (Some (span n n)) None;
  all = span 0 highest;
  meet = common;
  pieces = λ b. below b ++ above b;
  same = λ a b. (a.low == b.low) && (a.high == b.high);
  most = 2;
}
