use Rattle.lists.proofs.Loops.{Looped}
use Rattle.logic.specs.Operators.{of_label, states}
use Rattle.std.specs.List.{flat_map}
use Rattle.engine.proofs.operators.predicate.predicate.Given as goal

-- for each state the rows of its labels are added
abbrev pub invariant-loop-state : goal.invariant-loop-state
invariant-loop-state g l =
    let m = g.K.Kind.model in
    let graph = l.case.graph in
    Looped m l.initial.lists l.lists l.dest.number
    (λ s. flat_map (of_label m graph l.atom.predicate l.atom.variables.now s) graph.labels) (states m graph) l.state
