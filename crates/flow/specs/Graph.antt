-- Flow graphs: numbered states, edges in the order of drawing, labels in the order of entry.
use Rattle.std.specs.Prelude.{ℕ, cond, List, [], ◌∷◌, ◌==◌}
use Rattle.flow.specs.declared.edge.Edge.{Edge}

pub record Label : Type 0 where
  pub state : ℕ
  pub predicate : ℕ
  pub values : List ℕ

-- the states are the numbers below `states`
pub record Graph : Type 0 where
  pub states : ℕ
  pub edges : List Edge
  pub labels : List Label

-- where the edges from s lead, in their order
abbrev pub ends : List Edge → ℕ → List ℕ
ends [] s = []
ends (e ∷ es) s = cond (e.from == s) (e.to ∷ ends es s) (ends es s)

abbrev pub successors : Graph → ℕ → List ℕ
successors g s = ends g.edges s

abbrev pub nothing_drawn : Graph
nothing_drawn = record { states = 0; edges = []; labels = [] }
