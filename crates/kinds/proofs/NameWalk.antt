-- The numbers of a set, as a chain that tests each number gives them.
use Rattle.std.proofs.Common.{◌≡◌, ℕ, zero, suc, ◌+◌, ◌-◌, ◌<◌, ◌≤◌, Bool, true, false, cond, List, [], ◌∷◌, map, Some, ap, ◌∙◌, not-suc-le-zero, arith}
use Rattle.std.proofs.iter.Yields.{nat_range_steps}
use Rattle.std.proofs.lemmas.Iterator.{YieldsList}
use Rattle.std.proofs.lemmas.Iterator.Consumers.{YieldsList-from_filter}
use Rattle.std.specs.Fn.{CalledAt}
use Rattle.std.specs.Iterator.Adapters.{filter_source, filter_callee, filter_steps}
use Rattle.std.specs.List.{range_with_len, slice_get}
use denote.Param.Members.{Mut}
use denote.Ref.{Bor}
use Rattle.kinds.specs.Fragments.{bit, named, numbers_from}
use Rattle.kinds.specs.Names.{names}
use Rattle.kinds.specs.declared.fragments.fragment.Fragment.{Fragment}

-- where each number from k on is asked whether it is of the set, those of the set are left
pub numbers_walked :
    {F : Type 0} (g : Mut F (Bor ℕ × Unit {0}) Bool) (bits k count : ℕ) {s : _} {f : F}
    → YieldsList nat_range_steps (λ x. x) (filter_source s) (range_with_len k count) → filter_callee s ≡ f
    → ((x : ℕ) (b : Bool) (q : F) → CalledAt g f x b q → (q ≡ f) × (b ≡ bit bits x))
    → YieldsList (filter_steps nat_range_steps g) (λ x. x) s (numbers_from bits k count)
unfolding numbers_from
numbers_walked g bits k count from callee tests = YieldsList-from_filter g (bit bits) from callee tests

-- the numbers of the set from k on
abbrev pub rest : ℕ → ℕ → List ℕ
rest bits k = numbers_from bits k (names - k)

-- their boxes
abbrev pub boxes : ℕ → ℕ → List Fragment
boxes bits k = map named (rest bits k)

-- at the end no number is left
pub rest_all : (bits k : ℕ) → names ≤ k → rest bits k ≡ []
unfolding numbers_from
rest_all bits k h = let e : names - k ≡ 0 = omega arith in ap (numbers_from bits k) e

-- past the head, the places count one less
nth_pred : {X : Type 0} (x : X) (xs : List X) (j : ℕ) → 0 < j → slice_get (x ∷ xs) j ≡ slice_get xs (j - 1)
nth_pred x xs zero h = absurd (not-suc-le-zero h)
nth_pred x xs (suc j) h = let e : j ≡ suc j - 1 = omega arith in ap (slice_get xs) e

module _ (bits k : ℕ) (nameable : k < names) where
  -- the next number stands in front, if the set has it
  rest_more : rest bits k ≡ cond (bit bits k) (k ∷ rest bits (k + 1)) (rest bits (k + 1))
  unfolding numbers_from
  rest_more = let e : names - k ≡ suc (names - (k + 1)) = omega arith in ap (numbers_from bits k) e

  -- a number of the set comes next
  pub rest_in : bit bits k ≡ true → rest bits k ≡ k ∷ rest bits (k + 1)
  rest_in b = rest_more ∙ ap (λ t. cond t (k ∷ rest bits (k + 1)) (rest bits (k + 1))) b

  -- a number that is not of the set is passed over
  pub rest_out : bit bits k ≡ false → rest bits k ≡ rest bits (k + 1)
  rest_out b = rest_more ∙ ap (λ t. cond t (k ∷ rest bits (k + 1)) (rest bits (k + 1))) b

  -- the first box is that of the next number
  pub first_in : bit bits k ≡ true → slice_get (boxes bits k) 0 ≡ Some (named k)
  first_in b = rw (rest_in b)

  -- each later box stands one place nearer after it
  pub later_in : (j : ℕ) → bit bits k ≡ true → 0 < j → slice_get (boxes bits k) j ≡ slice_get (boxes bits (k + 1)) (j - 1)
  later_in j b p = rw (rest_in b) (nth_pred (named k) (boxes bits (k + 1)) j p)
