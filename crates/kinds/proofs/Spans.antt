-- A span is known by its ends.
use mathlib.Core.HLevel.{is_prop→PathP}
use Rattle.std.proofs.Common.{◌≡◌, ℕ, ◌≤◌, arith}
use native.Mathlib.Bridge.{le_prop}
use Rattle.kinds.specs.Amounts.{span}
use Rattle.kinds.specs.Highest.{highest}
use Rattle.kinds.specs.declared.amounts.span.Span.{Span}

-- equal ends, equal spans
same_span : (a b : Span) → a.low ≡ b.low → a.high ≡ b.high → a ≡ b
same_span a b p q = λ i. record {
  low = p i;
  high = q i;
  ordered = is_prop→PathP (λ j. p j ≤ q j) (λ j. le_prop) a.ordered b.ordered i;
  bounded = is_prop→PathP (λ j. q j ≤ highest) (λ j. le_prop) a.bounded b.bounded i;
}

-- the span from low to high has these ends
pub span_is : (a : Span) (low high : ℕ) → a.low ≡ low → a.high ≡ high → a ≡ span low high
span_is a low high p q = same_span a (span low high) (omega arith) (omega arith)
