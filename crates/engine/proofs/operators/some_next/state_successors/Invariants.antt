use Rattle.lists.specs.Lent.{table_in}
use Rattle.lists.specs.Tables.{at}
use Rattle.lists.proofs.Loops.{Looped}
use Rattle.logic.specs.Operators.{moved}
use Rattle.engine.proofs.Stepped.{along}
use Rattle.engine.proofs.operators.some_next.state_successors.Given as goal

-- for each edge from the state the rows at its end are added
abbrev pub invariant-loop-edge : goal.invariant-loop-edge
invariant-loop-edge g l =
    let rows = at (table_in l.initial.lists) l.route.source.number in
    Looped g.K.Kind.model l.initial.lists l.lists l.route.dest.number
    (along (λ t. moved g.K.Kind.model l.state t rows) l.state) l.edge-items l.edge-index
