-- The facts that hold of every graph: edges join states, labels are on states, and all keep their bounds. Once it is
-- closed, an edge leaves from each state.
use Rattle.std.specs.Prelude.{◌≡◌, ℕ, ◌<◌, ◌≤◌, true, length}
use Rattle.flow.specs.Closed.{leaves}
use Rattle.flow.specs.Facts.{Proper}
use Rattle.flow.specs.Graph.{Graph}
use Rattle.flow.specs.Limits.{most_closed_edges, most_labels, most_states}
use Rattle.std.specs.List.{AllByRecursion}
use Rattle.flow.specs.declared.edge.Edge.{Edge}

-- the edge joins two of the states
pub record Joined (states : ℕ) (e : Edge) : Type 0 where
  pub from : e.from < states
  pub to : e.to < states

-- what holds of a graph of so many edges at most
pub record Sound (most : ℕ) (g : Graph) : Type 0 where
  pub few_states : g.states ≤ most_states
  pub few_edges : length g.edges ≤ most
  pub few_labels : length g.labels ≤ most_labels
  pub joined : AllByRecursion (Joined g.states) g.edges
  pub labelled : AllByRecursion (Proper g.states) g.labels

-- what holds of every closed graph
pub record SoundClosed (g : Graph) : Type 0 where
  pub sound : Sound most_closed_edges g
  -- an edge leaves from each state
  pub leading : (s : ℕ) → s < g.states → leaves g.edges s ≡ true
