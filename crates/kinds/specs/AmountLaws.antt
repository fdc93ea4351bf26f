-- The amounts keep the laws.
use Rattle.std.specs.Prelude.{◌≡◌, ℕ, true}
use Rattle.std.proofs.Common.{arith}
use Rattle.std.proofs.lemmas.Bool.Decides.{nat_tests}
use Rattle.kinds.specs.Amounts.{amounts}
use Rattle.kinds.specs.Laws.{Laws}
use Rattle.kinds.specs.declared.amounts.span.Span.{Span}

-- spans that hold the same amounts have the same ends
same_ends : (a b : Span) → ((n : ℕ) → amounts.allows a n ≡ amounts.allows b n) → amounts.same a b ≡ true
same_ends a b e =
    let h = e a.low in let h' = e b.low in let k = e a.high in let k' = e b.high in grind (arith, nat_tests)

-- the laws, one by one: all are arithmetic
pub amounts_laws : Laws amounts
amounts_laws = record {
  nameable_value = λ n e. e;
  allows_value = λ b n e. grind (arith, nat_tests);
  allows_some = λ b. (b.low, grind (arith, nat_tests));
  one_nameable = λ n. grind (arith, nat_tests);
  one_allows = λ n k e. grind (arith, nat_tests);
  all_allows = λ n. grind (arith, nat_tests);
  meet_allows = λ a b n. grind (arith, nat_tests);
  pieces_allow = λ b n. grind (arith, nat_tests);
  pieces_most = λ b. grind (arith, nat_tests);
  same_allows = λ a b. (λ e n. grind (arith, nat_tests), same_ends a b);
}
