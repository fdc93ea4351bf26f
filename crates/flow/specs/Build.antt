-- The calls that build a draft, with their arguments.
use Rattle.std.specs.Prelude.{ℕ, List}

pub data Build : Type 0 where
  -- one more state
  state : Build
  -- an edge from a state to a state
  edge : ℕ → ℕ → Build
  -- a label on a state: a predicate and a list of values
  label : ℕ → ℕ → List ℕ → Build
