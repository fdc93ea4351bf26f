use Rattle.std.proofs.Common.{ℕ, sym, ap, ◌∙◌, arith}
use Rattle.lists.specs.Lent.{table_in}
use Rattle.lists.specs.Tables.{at}
use Rattle.lists.proofs.Loops.{loop_all, loop_more, loop_other, loop_skip, loop_stop}
use Rattle.logic.specs.Operators.{moved}
use Rattle.engine.proofs.Stepped.{along_all, along_here, along_not, edge_at, edge_read}
use Rattle.engine.proofs.operators.some_next.state_successors.Goals as goal
use Rattle.engine.proofs.operators.some_next.state_successors.Goals.{else-edge-state}
use Rattle.engine.proofs.operators.some_next.state_successors.Goals.{then-edge-state+in_ok-add_moved}

pub returns-in_err-add_moved : goal.returns-in_err-add_moved
returns-in_err-add_moved g c =
    let model = g.K.Kind.model in
    let state = c.args.state in
    let there = λ (t : ℕ). moved model state t (at (table_in c.args.lists.now) c.args.route.source.number) in
    let es = c.edges-edge-items.result.now in
    let edge = edge_at es c.loop-edge.edge-index in
    let loop = c.loop-edge.invariant in
    let read = edge_read es c.loop-edge.edge-index c.loop-edge-test.true in
    let gives = along_here there state edge c.if-edge-state.true
    ∙ ap (moved model state edge.to) (sym (loop_other loop c.args.route.apart)) in
    rw (sym (along_all there state c.args.case.now.graph c.edges-edge-items.ensures.drawn))
    (loop_stop loop (omega arith) read gives c.args.route.dest.known c.from_residual.result c.from_residual.ensures.1
    c.in_err-add_moved.ensures)

pub loop-edge-preserved : goal.loop-edge-preserved
loop-edge-preserved g c =
    let model = g.K.Kind.model in
    let state = c.args.state in
    let there = λ (t : ℕ). moved model state t (at (table_in c.args.lists.now) c.args.route.source.number) in
    let es = c.edges-edge-items.result.now in
    let edge = edge_at es c.loop-edge.edge-index in
    let loop = c.loop-edge.invariant in
    let read = edge_read es c.loop-edge.edge-index c.loop-edge-test.true in
    elim c.if-edge-state.branch [
      | then-edge-state+in_ok-add_moved w ↦
          let gives = along_here there state edge w.if-edge-state.true
          ∙ ap (moved model state edge.to) (sym (loop_other loop c.args.route.apart)) in
          rw w.lists-is (loop_more loop (omega arith) read gives c.args.route.dest.known w.in_ok-add_moved.ensures)
      | else-edge-state w ↦
          let none = along_not there state edge w.if-edge-state.false in
          rw w.lists-is (loop_skip loop (omega arith) read none)
    ]

pub returns : goal.returns
returns g c =
    let model = g.K.Kind.model in
    let state = c.args.state in
    let there = λ (t : ℕ). moved model state t (at (table_in c.args.lists.now) c.args.route.source.number) in
    rw (sym (along_all there state c.args.case.now.graph c.edges-edge-items.ensures.drawn))
    (loop_all c.loop-edge.invariant (omega arith))
