use Rattle.lists.specs.Lent.{table_in}
use Rattle.lists.specs.Tables.{at}
use Rattle.lists.proofs.Loops.{Looped}
use Rattle.logic.specs.Operators.{states}
use Rattle.engine.proofs.Stepped.{led_to}
use Rattle.engine.proofs.operators.some_next.some_next.Given as goal

-- for each state the rows at its successors are added
abbrev pub invariant-loop-state : goal.invariant-loop-state
invariant-loop-state g l =
    let model = g.K.Kind.model in
    Looped model l.initial.lists l.lists l.route.dest.number
    (led_to model l.case.graph (at (table_in l.initial.lists) l.route.source.number))
    (states model l.case.graph) l.state
