-- The fragments keep the laws.
use Rattle.std.specs.Prelude.{◌≡◌, ℕ, zero, suc, ◌+◌, ◌%◌, ◌^◌, ◌<◌, ◌≤◌, Bool, true, false, cond, not, ◌&&◌, ◌||◌, List, ◌∷◌, map, length, ◌==◌, nat_le, nat_lt, refl}
use Rattle.std.proofs.Math.Bool.{and_comm, or-false, not-not}
use Rattle.std.proofs.Common.{sym, ap, ◌∙◌, arith}
use Rattle.std.specs.Int.Bits.{bit_or}
use Rattle.std.proofs.lemmas.Nat.{or_lt}
use Rattle.std.proofs.Math.Pow.{pow-lt}
use Rattle.std.proofs.lemmas.Bool.{eq-eqb}
use Rattle.std.proofs.lemmas.Bool.Decides.{nat_tests}
use Rattle.std.proofs.Math.ListN.{length-map}
use Rattle.std.proofs.lemmas.List.FromFn.{length-range_with_len}
use Rattle.std.proofs.lemmas.List.Sums.{count_by-le-length, length-filter}
use Rattle.std.specs.List.{filter, range_with_len}
use Rattle.kinds.specs.BitSets.{bit-or, bit_past, bit_pow, same_bits}
use Rattle.kinds.specs.Fragments.{bit, common, equal, fragments, keeps, named, narrowed, numbers_from, parts, without}
use Rattle.kinds.specs.Laws.{Laws}
use Rattle.kinds.specs.Model.{allowed, together}
use Rattle.kinds.specs.Names.{names}
use Rattle.kinds.specs.declared.fragments.fragment.Fragment.{Fragment}
use Rattle.kinds.specs.declared.fragments.fragment.Fragment.TheVariants.{Only, Except}
use Rattle.kinds.specs.declared.fragments.fragment.Name.{Name}
use Rattle.kinds.specs.declared.fragments.fragment.NameSet.{NameSet}

-- no set has a number that is not nameable
unnamed : (s : NameSet) (n : ℕ) → names ≤ n → bit s.bits n ≡ false
unnamed s n h = bit_past s.bits names n s.nameable h

-- a name allows itself, and a set leaves out no number past the names
allows_some : (b : Fragment) → (n : ℕ) × (keeps b n ≡ true)
allows_some (Only a) = (a.number, grind (arith, nat_tests))
allows_some (Except s) = (names, ap not (unnamed s names (omega arith)))

-- a box without a set allows what is not of the set
without_keeps : (bits n : ℕ) → bits < 2 ^ names → keeps (without bits) n ≡ not (bit bits n)
without_keeps bits n h = let e : bits % 2 ^ names ≡ bits = omega arith in ap (λ x. not (bit x n)) e

-- a box narrowed to a name allows the name, if it did
narrowed_allows :
    (b : Fragment) (a : Name) (n : ℕ) → allowed fragments (narrowed b a) n ≡ (keeps (Only a) n && keeps b n)
narrowed_allows b a n = grind (arith, nat_tests)

-- what is of neither set is of none of them
not_or : (x y : Bool) → not (x || y) ≡ (not x && not y)
not_or true y = refl
not_or false y = refl

-- a name is met by narrowing, and sets by their union
meet_allows : (a b : Fragment) (n : ℕ) → allowed fragments (common a b) n ≡ (keeps a n && keeps b n)
meet_allows (Only a) b n = narrowed_allows b a n
meet_allows (Except s) (Only b) n =
    narrowed_allows (Except s) b n ∙ and_comm (b.number == n) (not (bit s.bits n))
meet_allows (Except s) (Except t) n =
    without_keeps (bit_or s.bits t.bits) n (or_lt names s.bits t.bits s.nameable t.nameable)
    ∙ ap not (bit-or s.bits t.bits n) ∙ not_or (bit s.bits n) (bit t.bits n)

-- one number more at the front, if the set has it
front_allows :
    (x : Bool) (k : ℕ) (ks : List ℕ) (n : ℕ) →
    together fragments (map named (cond x (k ∷ ks) ks)) n
    ≡ ((x && k % names == n) || together fragments (map named ks) n)
front_allows true k ks n = refl
front_allows false k ks n = refl

-- a range with one number more at the front
range_more :
    (f : ℕ → Bool) (k count n : ℕ) → k < names →
    ((f k && k % names == n) || (nat_le (k + 1) n && (nat_lt n (k + 1 + count) && f n)))
    ≡ (nat_le k n && (nat_lt n (k + suc count) && f n))
range_more f k count n h = grind (arith, nat_tests)

-- the boxes of the numbers of a set allow those of its numbers that were gone through
names_allow :
    (bits k count n : ℕ) → k + count ≤ names →
    together fragments (map named (numbers_from bits k count)) n ≡ (nat_le k n && (nat_lt n (k + count) && bit bits n))
unfolding numbers_from
names_allow bits k zero n h = grind (arith, nat_tests)
names_allow bits k (suc count) n h =
    front_allows (bit bits k) k (numbers_from bits (k + 1) count) n
    ∙ ap (λ x. (bit bits k && k % names == n) || x) (names_allow bits (k + 1) count n (omega arith))
    ∙ range_more (bit bits) k count n (omega arith)

-- what is not nameable needs no test
range_all : (f : ℕ → Bool) (n : ℕ) → (names ≤ n → f n ≡ false) → (nat_le 0 n && (nat_lt n (0 + names) && f n)) ≡ f n
range_all f n h = grind (arith, nat_tests)

-- a name lacks all but itself, and a set is what its box lacks
pieces_allow : (b : Fragment) (n : ℕ) → together fragments (parts b) n ≡ not (keeps b n)
pieces_allow (Only a) n =
    or-false (keeps (without (2 ^ a.number)) n) ∙ without_keeps (2 ^ a.number) n (pow-lt a.nameable)
    ∙ ap not (bit_pow a.number n)
pieces_allow (Except s) n =
    names_allow s.bits 0 names n (omega arith) ∙ range_all (bit s.bits) n (unnamed s n)
    ∙ sym (not-not (bit s.bits n))

-- there are no more pieces than names
pieces_most : (b : Fragment) → length (parts b) ≤ names
unfolding numbers_from
pieces_most (Only a) = omega arith
pieces_most (Except s) =
    let all : List ℕ = range_with_len 0 names in
    omega (
      arith,
      length-map (filter (bit s.bits) all) named,
      length-filter (bit s.bits) all,
      count_by-le-length (bit s.bits) all,
      length-range_with_len 0 names,
    )

-- equal boxes allow the same
equal_same : (a b : Fragment) → equal a b ≡ true → (n : ℕ) → keeps a n ≡ keeps b n
equal_same (Only a) (Only b) e n = grind (arith, nat_tests)
equal_same (Only a) (Except t) e n = grind (arith, nat_tests)
equal_same (Except s) (Only b) e n = grind (arith, nat_tests)
equal_same (Except s) (Except t) e n = grind (arith, nat_tests)

-- a name and a set differ at a number that is not nameable
apart : (a : Name) (s : NameSet) → ((n : ℕ) → keeps (Only a) n ≡ keeps (Except s) n) → ⊥
apart a s e = let h = e names in let g = unnamed s names (omega arith) in grind (arith, nat_tests)

-- boxes that allow the same are equal
same_equal : (a b : Fragment) → ((n : ℕ) → keeps a n ≡ keeps b n) → equal a b ≡ true
same_equal (Only a) (Only b) e = let h = e a.number in grind (arith, nat_tests)
same_equal (Only a) (Except t) e = absurd (apart a t e)
same_equal (Except s) (Only b) e = absurd (apart b s (λ n. sym (e n)))
same_equal (Except s) (Except t) e =
    let bits : (k : ℕ) → bit s.bits k ≡ bit t.bits k = λ k. let h = e k in grind (arith, nat_tests) in
    eq-eqb s.bits t.bits (same_bits names s.bits t.bits s.nameable t.nameable bits)

-- the laws, one by one
pub fragments_laws : Laws fragments
fragments_laws = record {
  nameable_value = λ n e. refl;
  allows_value = λ b n e. refl;
  allows_some = allows_some;
  one_nameable = λ n. grind (arith, nat_tests);
  one_allows = λ n k e. grind (arith, nat_tests);
  all_allows = λ n. ap not (bit_past 0 0 n (omega arith) (omega arith));
  meet_allows = meet_allows;
  pieces_allow = pieces_allow;
  pieces_most = pieces_most;
  same_allows = λ a b. (equal_same a b, same_equal a b);
}
