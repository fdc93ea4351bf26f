-- What every case shows, in the words of those who build on it.
use Rattle.std.specs.Prelude.{◌≡◌, ℕ, ◌<◌, ◌≤◌, true, List, length, slice_index_or}
use Rattle.flow.specs.Graph.{Graph, Label, successors}
use Rattle.flow.specs.Limits.{most_arguments, most_states, predicates}
use Rattle.flow.specs.Line.{Line}
use Rattle.flow.specs.Sheet.{right}
use Rattle.std.specs.List.{AllByRecursion}

-- the label is on a state, and keeps its bounds
pub record Proper (states : ℕ) (l : Label) : Type 0 where
  pub on_state : l.state < states
  pub small : l.predicate < predicates
  pub few : length l.values ≤ most_arguments

pub record ClosedGraph (g : Graph) : Type 0 where
  pub few : g.states ≤ most_states
  -- every state has a successor
  pub leads : (s : ℕ) → s < g.states → 0 < length (successors g s)
  -- every successor is a state
  pub stays : (s : ℕ) → AllByRecursion (λ t. t < g.states) (successors g s)
  pub labelled : AllByRecursion (Proper g.states) g.labels

-- each line has right operands where it stands: it names earlier lines only, and keeps the bounds of variables and
-- predicates
abbrev pub Ordered : List Line → Type 0
Ordered ls = (i : ℕ) (d : Line) → i < length ls → right i (slice_index_or ls i d) ≡ true
