-- Endless paths through a closed graph.
use Rattle.std.specs.Prelude.{◌≡◌, ℕ, suc, ◌<◌}
use Rattle.flow.specs.Graph.{Graph, successors}
use Rattle.kinds.specs.Member.{◌∈◌}

-- an endless path begins at s and goes from each place to a successor
pub record Endless (g : Graph) (s : ℕ) (path : ℕ → ℕ) : Type 0 where
  pub begins : path 0 ≡ s
  pub goes : (i : ℕ) → path (suc i) ∈ successors g (path i)

-- the path has a place where B holds, and A holds at all earlier places
abbrev pub Meets : (ℕ → Type 0) → (ℕ → Type 0) → (ℕ → ℕ) → Type 0
Meets A B path = (k : ℕ) × B (path k) × ((i : ℕ) → i < k → A (path i))
