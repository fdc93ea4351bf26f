-- Closing: each state that has no outgoing edge gets one to itself.
use Rattle.std.specs.Prelude.{ℕ, zero, suc, Bool, cond, List, [], ◌∷◌, ◌++◌, nat_eq}
use Rattle.flow.specs.Graph.{Graph}
use Rattle.std.specs.List.{list_any}
use Rattle.flow.specs.declared.edge.Edge.{Edge}

-- an edge leaves from s
abbrev pub leaves : List Edge → ℕ → Bool
leaves es s = list_any (λ e. nat_eq e.from s) es

-- the edge that closing adds for s, if any
abbrev pub loop : List Edge → ℕ → List Edge
loop es s = cond (leaves es s) [] (record { from = s; to = s } ∷ [])

-- the edges that closing adds for the states below a number, ascending
abbrev pub loops : List Edge → ℕ → List Edge
loops es zero = []
loops es (suc s) = loops es s ++ loop es s

abbrev pub closed : Graph → Graph
closed g = record { states = g.states; edges = g.edges ++ loops g.edges g.states; labels = g.labels }
