use Rattle.std.proofs.Common.{sym, ap, arith}
use Rattle.lists.specs.Lent.{table_in}
use Rattle.lists.specs.Tables.{at}
use Rattle.lists.proofs.Loops.{loop_all, loop_more, loop_other, loop_stop}
use Rattle.engine.proofs.Stepped.{led_to, stepped_joined}
use Rattle.engine.proofs.States.{counted}
use Rattle.engine.proofs.operators.some_next.some_next.Goals as goal
use Rattle.std.proofs.lemmas.List.FromFn.{length-range_with_len}

pub returns-in_err-state_successors : goal.returns-in_err-state_successors
returns-in_err-state_successors g c =
    let model = g.K.Kind.model in
    let graph = c.args.case.now.graph in
    let loop = c.loop-state.invariant in
    let state = c.loop-state.state in
    let many = length-range_with_len 0 graph.states in
    let count = c.states-state-end.ensures in
    let read = counted graph.states state (omega arith) in
    let gives = ap (λ rows. led_to model graph rows state) (sym (loop_other loop c.args.route.apart)) in
    rw (stepped_joined model graph (at (table_in c.args.lists.now) c.args.route.source.number))
    (loop_stop loop (omega arith) read gives c.args.route.dest.known c.from_residual.result c.from_residual.ensures.1
    c.in_err-state_successors.ensures)

pub loop-state-preserved : goal.loop-state-preserved
loop-state-preserved g c =
    let graph = c.args.case.now.graph in
    let loop = c.loop-state.invariant in
    let many = length-range_with_len 0 graph.states in
    let count = c.states-state-end.ensures in
    let state = c.loop-state.state in
    let read = counted graph.states state (omega arith) in
    let gives = ap (λ rows. led_to g.K.Kind.model graph rows state) (sym (loop_other loop c.args.route.apart)) in
    loop_more loop (omega arith) read gives c.args.route.dest.known c.in_ok-state_successors.ensures

pub returns : goal.returns
returns g c =
    let graph = c.args.case.now.graph in
    let many = length-range_with_len 0 graph.states in
    let count = c.states-state-end.ensures in
    rw (stepped_joined g.K.Kind.model graph (at (table_in c.args.lists.now) c.args.route.source.number))
    (loop_all c.loop-state.invariant (omega arith))
