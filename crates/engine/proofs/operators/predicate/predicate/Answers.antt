use Rattle.std.proofs.Common.{◌<◌, refl, arith}
use Rattle.lists.proofs.Loops.{loop_all, loop_more, loop_stop}
use Rattle.logic.specs.Operators.{labelled}
use Rattle.engine.proofs.States.{counted}
use Rattle.engine.proofs.operators.predicate.predicate.Goals as goal
use Rattle.std.proofs.lemmas.List.FromFn.{length-range_with_len}

pub returns-in_err-state_labels : goal.returns-in_err-state_labels
unfolding labelled
returns-in_err-state_labels g c =
    let n = c.args.case.now.graph.states in
    let below : c.loop-state.state < n = omega (arith, c.states-state-end.ensures) in
    loop_stop c.loop-state.invariant (omega (arith, length-range_with_len 0 n)) (counted n _ below) refl
    c.args.dest.known c.from_residual.result c.from_residual.ensures.1 c.in_err-state_labels.ensures

pub loop-state-preserved : goal.loop-state-preserved
loop-state-preserved g c =
    let n = c.args.case.now.graph.states in
    let below : c.loop-state.state < n = omega (arith, c.states-state-end.ensures) in
    loop_more c.loop-state.invariant (omega (arith, length-range_with_len 0 n)) (counted n _ below) refl
    c.args.dest.known c.in_ok-state_labels.ensures

pub returns : goal.returns
unfolding labelled
returns g c =
    let n = c.args.case.now.graph.states in
    loop_all c.loop-state.invariant (omega (arith, length-range_with_len 0 n, c.states-state-end.ensures))
