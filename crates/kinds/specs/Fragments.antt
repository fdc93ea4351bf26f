-- The fragments: a box is one nameable number, or all values but a set of nameable numbers.
use Rattle.std.specs.Prelude.{ℕ, ◌%◌, ◌^◌, Bool, true, false, cond, not, List, [], ◌∷◌, map, Some, None, Option, ◌==◌, bit_or, nat_lt}
use Rattle.std.proofs.Common.{arith}
use Rattle.std.specs.Int.{bit_at}
use Rattle.std.specs.List.{filter, range_with_len}
use Rattle.kinds.specs.Model.{Model}
use Rattle.kinds.specs.Names.{names}
use Rattle.kinds.specs.declared.fragments.fragment.Fragment.{Fragment}
use Rattle.kinds.specs.declared.fragments.fragment.Fragment.TheVariants.{Only, Except}
use Rattle.kinds.specs.declared.fragments.fragment.Name.{Name}

-- the set has the number k: its bit k is 1
abbrev pub bit : ℕ → ℕ → Bool
bit bits k = bit_at bits k == 1

-- the numbers of the set among the count ones from k on, ascending
unfoldable pub numbers_from : ℕ → ℕ → ℕ → List ℕ
numbers_from bits k count = filter (bit bits) (range_with_len k count)

-- the numbers of the set, ascending
abbrev pub numbers : ℕ → List ℕ
numbers bits = numbers_from bits 0 names

-- the box of the number n, where that is nameable (for others nothing asks)
abbrev pub named : ℕ → Fragment
named n = Only record { number = n % names; nameable = omega arith }

-- the box of all values but those of the set
abbrev pub without : ℕ → Fragment
without bits = Except record { bits = bits % 2 ^ names; nameable = omega arith }

-- the box allows n
abbrev pub keeps : Fragment → ℕ → Bool
keeps (Only a) n = a.number == n
keeps (Except s) n = not (bit s.bits n)

-- the box b narrowed to one name, if it allows that
abbrev pub narrowed : Fragment → Name → Option Fragment
narrowed b a = cond (keeps b a.number) (Some (Only a)) None

-- a name that both allow, or all values but those that either excludes
abbrev pub common : Fragment → Fragment → Option Fragment
common (Only a) b = narrowed b a
common (Except s) (Only b) = narrowed (Except s) b
common (Except s) (Except t) = Some (without (bit_or s.bits t.bits))

-- all values but the one, or each of those excluded
abbrev pub parts : Fragment → List Fragment
parts (Only a) = without (2 ^ a.number) ∷ []
parts (Except s) = map named (numbers s.bits)

-- the same name, or the same set
abbrev pub equal : Fragment → Fragment → Bool
equal (Only a) (Only b) = a.number == b.number
equal (Only a) (Except t) = false
equal (Except s) (Only b) = false
equal (Except s) (Except t) = s.bits == t.bits

-- every number is a value, and those below `names` are nameable
abbrev pub fragments : Model Fragment
fragments = record {
  value = λ n. true;
  nameable = λ n. nat_lt n names;
  allows = keeps;
  one = λ n. cond (nat_lt n names) (Some (named n)) None;
  all = without 0;
  meet = common;
  pieces = parts;
  same = equal;
  most = names;
}
