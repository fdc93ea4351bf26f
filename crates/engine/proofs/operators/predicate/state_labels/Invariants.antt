use Rattle.flow.specs.Held.{label_of}
use Rattle.lists.proofs.Loops.{Looped}
use Rattle.logic.specs.Operators.{of_label}
use Rattle.engine.proofs.operators.predicate.state_labels.Given as goal

-- for each label of the case its row is added
abbrev pub invariant-loop-label : goal.invariant-loop-label
invariant-loop-label g l =
    let m = g.K.Kind.model in
    Looped m l.initial.lists l.lists l.dest.number
    (λ x. of_label m l.case.graph l.atom.predicate l.atom.variables.now l.state (label_of x))
    l.label-items l.label-index
