-- When a state and a valuation satisfy a formula.
use Rattle.std.specs.Prelude.{◌≡◌, ℕ, ◌⊎◌, List, map}
use Rattle.flow.specs.Graph.{Graph, Label, successors}
use Rattle.kinds.specs.Consequences.{Value}
use Rattle.kinds.specs.Member.{◌∈◌}
use Rattle.kinds.specs.Model.{Model}
use Rattle.logic.specs.Formulas.{Formula, predicate, and, or, not, exists, all_next, some_next, all_until, some_until}
use Rattle.logic.specs.Paths.{Endless, Meets}
use Rattle.logic.specs.Valuations.{Valuation, put}

-- a label of the state s has the predicate and just these values, in this order
pub record Labelled (g : Graph) (s p : ℕ) (ns : List ℕ) : Type 0 where
  pub label : Label
  pub among : label ∈ g.labels
  pub at_state : label.state ≡ s
  pub says : label.predicate ≡ p
  pub of_values : label.values ≡ ns

module _ {B : Type 0} (m : Model B) (g : Graph) where
  abbrev pub Satisfies : Formula → ℕ → Valuation → Type 0
  Satisfies (predicate p xs) s v = Labelled g s p (map v xs)
  Satisfies (and a b) s v = Satisfies a s v × Satisfies b s v
  Satisfies (or a b) s v = Satisfies a s v ⊎ Satisfies b s v
  Satisfies (not a) s v = Satisfies a s v → ⊥
  Satisfies (exists x a) s v = (n : ℕ) × Value m n × Satisfies a s (put v x n)
  Satisfies (all_next a) s v = (t : ℕ) → t ∈ successors g s → Satisfies a t v
  Satisfies (some_next a) s v = (t : ℕ) × (t ∈ successors g s) × Satisfies a t v
  Satisfies (all_until a b) s v =
      (path : ℕ → ℕ) → Endless g s path → Meets (λ t. Satisfies a t v) (λ t. Satisfies b t v) path
  Satisfies (some_until a b) s v =
      (path : ℕ → ℕ) × Endless g s path × Meets (λ t. Satisfies a t v) (λ t. Satisfies b t v) path
