-- Formula lines: an operator with its operands, which are lines named by their numbers.
use Rattle.std.specs.Prelude.{ℕ, List, [], ◌∷◌, drop, slice_index}
use Rattle.flow.specs.declared.operator.Operator.{Operator}
use Rattle.flow.specs.declared.operator.Operator.TheVariants as op

pub data Line : Type 0 where
  -- a predicate, and the variables that it holds of
  predicate : ℕ → List ℕ → Line
  and or : ℕ → ℕ → Line
  not : ℕ → Line
  -- a variable, and the line in which it stands for some value
  exists : ℕ → ℕ → Line
  all_next some_next : ℕ → Line
  -- what holds until then, and what holds then
  all_until some_until : ℕ → ℕ → Line

-- the line of an operator and its numbers, where their count is right
abbrev pub made : Operator → List ℕ → Line
made op.Predicate ns = predicate (slice_index ns 0) (drop 1 ns)
made op.And ns = and (slice_index ns 0) (slice_index ns 1)
made op.Or ns = or (slice_index ns 0) (slice_index ns 1)
made op.Not ns = not (slice_index ns 0)
made op.Exists ns = exists (slice_index ns 0) (slice_index ns 1)
made op.AllNext ns = all_next (slice_index ns 0)
made op.SomeNext ns = some_next (slice_index ns 0)
made op.AllUntil ns = all_until (slice_index ns 0) (slice_index ns 1)
made op.SomeUntil ns = some_until (slice_index ns 0) (slice_index ns 1)

abbrev pub operator : Line → Operator
operator (predicate p xs) = op.Predicate
operator (and a b) = op.And
operator (or a b) = op.Or
operator (not a) = op.Not
operator (exists x a) = op.Exists
operator (all_next a) = op.AllNext
operator (some_next a) = op.SomeNext
operator (all_until a b) = op.AllUntil
operator (some_until a b) = op.SomeUntil

-- the numbers that a line was entered with
abbrev pub numbers : Line → List ℕ
numbers (predicate p xs) = p ∷ xs
numbers (and a b) = a ∷ b ∷ []
numbers (or a b) = a ∷ b ∷ []
numbers (not a) = a ∷ []
numbers (exists x a) = x ∷ a ∷ []
numbers (all_next a) = a ∷ []
numbers (some_next a) = a ∷ []
numbers (all_until a b) = a ∷ b ∷ []
numbers (some_until a b) = a ∷ b ∷ []
