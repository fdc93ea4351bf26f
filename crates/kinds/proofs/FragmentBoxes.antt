-- A box of fragments is known by its number or its bits.
use mathlib.Core.HLevel.{is_prop→PathP}
use Rattle.std.proofs.Common.{◌≡◌, ℕ, ◌^◌, ◌<◌, ap, arith}
use native.Mathlib.Bridge.{le_prop}
use Rattle.kinds.specs.Fragments.{named, without}
use Rattle.kinds.specs.Names.{names}
use Rattle.kinds.specs.declared.fragments.fragment.Fragment.TheVariants.{Only, Except}
use Rattle.kinds.specs.declared.fragments.fragment.Name.{Name}
use Rattle.kinds.specs.declared.fragments.fragment.NameSet.{NameSet}

-- equal numbers, equal names
same_name : (a b : Name) → a.number ≡ b.number → a ≡ b
same_name a b p = λ i. record {
  number = p i;
  nameable = is_prop→PathP (λ j. p j < names) (λ j. le_prop) a.nameable b.nameable i;
}

-- equal bits, equal sets
same_set : (a b : NameSet) → a.bits ≡ b.bits → a ≡ b
same_set a b p = λ i. record {
  bits = p i;
  nameable = is_prop→PathP (λ j. p j < 2 ^ names) (λ j. le_prop) a.nameable b.nameable i;
}

-- the box of a name is the one of its number
pub named_is : (a : Name) (n : ℕ) → a.number ≡ n → Only a ≡ named n
named_is a n e = ap (λ x. Only x) (same_name a record { number = _; nameable = _ } (omega arith))

-- the box without a set is the one of its bits
pub without_is : (a : NameSet) (bits : ℕ) → a.bits ≡ bits → Except a ≡ without bits
without_is a bits e = ap (λ x. Except x) (same_set a record { bits = _; nameable = _ } (omega arith))
