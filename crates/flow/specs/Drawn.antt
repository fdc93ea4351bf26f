-- Drawing: what each call on a draft is refused for, what it adds, and the graph that a list of calls draws.
use Rattle.std.specs.Prelude.{ℕ, ◌+◌, Bool, ◌&&◌, ◌||◌, List, [], ◌∷◌, ◌++◌, length, Option, Result, ◌==◌, nat_le}
use Rattle.flow.specs.Build.{Build, edge, label, state}
use Rattle.flow.specs.Graph.{Graph, Label, nothing_drawn}
use Rattle.flow.specs.Limits.{most_arguments, most_edges, most_labels, most_states, predicates}
use Rattle.flow.specs.Refusals.{leaving, reply}
use Rattle.std.specs.List.{list_any}
use Rattle.std.specs.Cmp.Lexicographic.{pointwise}
use Rattle.flow.specs.Tests.{earliest}
use Rattle.flow.specs.declared.edge.Edge.{Edge}
use Rattle.flow.specs.declared.refusal.Refusal.{Refusal}
use Rattle.flow.specs.declared.refusal.Refusal.TheVariants.{AlreadyThere, BadLabel, TableFull, TooManyStates, UnknownState}

-- the edge joins a to b
abbrev pub is_edge : ℕ → ℕ → Edge → Bool
is_edge a b e = e.from == a && e.to == b

-- the label is this predicate with these values, on s
abbrev pub is_label : ℕ → ℕ → List ℕ → Label → Bool
is_label s p ns l = l.state == s && (l.predicate == p && pointwise ◌==◌ l.values ns)

-- the number is no state of the graph
abbrev pub unknown : Graph → ℕ → Bool
unknown g s = nat_le g.states s

-- the earliest refusal that a call meets, if any
unfoldable pub refusal : Graph → Build → Option Refusal
refusal g state = earliest ((nat_le most_states g.states, TooManyStates) ∷ [])
refusal g (edge a b) =
    earliest
    ((unknown g a || unknown g b, UnknownState)
    ∷ (list_any (is_edge a b) g.edges, AlreadyThere)
    ∷ (nat_le most_edges (length g.edges), TableFull)
    ∷ [])
refusal g (label s p ns) =
    earliest
    ((unknown g s, UnknownState)
    ∷ (nat_le predicates p || nat_le (most_arguments + 1) (length ns), BadLabel)
    ∷ (list_any (is_label s p ns) g.labels, AlreadyThere)
    ∷ (nat_le most_labels (length g.labels), TableFull)
    ∷ [])

-- what an accepted call adds
unfoldable pub added : Graph → Build → Graph
added g state = record { states = g.states + 1; edges = g.edges; labels = g.labels }
added g (edge a b) =
    record { states = g.states; edges = g.edges ++ record { from = a; to = b } ∷ []; labels = g.labels }
added g (label s p ns) =
    record {
      states = g.states;
      edges = g.edges;
      labels = g.labels ++ record { state = s; predicate = p; values = ns } ∷ [];
    }

-- the reply to a call: x, unless it is refused
abbrev pub answer : {A : Type 0} → Graph → Build → A → Result A Refusal
answer g b x = reply (refusal g b) x

-- the graph after a call: refused ones add nothing
abbrev pub after : Graph → Build → Graph
after g b = leaving (refusal g b) g (added g b)

-- the graph that a list of calls draws, on top of what is there
abbrev pub drawn_on : Graph → List Build → Graph
drawn_on g [] = g
drawn_on g (b ∷ bs) = drawn_on (after g b) bs

abbrev pub drawn : List Build → Graph
drawn bs = drawn_on nothing_drawn bs
