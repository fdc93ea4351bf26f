use Rattle.std.proofs.Common.{arith}
use Rattle.lists.specs.Lent.{table_in}
use Rattle.lists.specs.Tables.{at}
use Rattle.lists.proofs.Loops.{loop_all, loop_more, loop_read, loop_skip, loop_stop}
use Rattle.engine.proofs.Stepped.{moved_joined, rewritten_here, rewritten_not}
use Rattle.engine.proofs.operators.some_next.add_moved.Goals as goal
use Rattle.engine.proofs.operators.some_next.add_moved.Goals.{then-row-from+in_ok-add, else-row-from}

pub returns-in_err-add : goal.returns-in_err-add
returns-in_err-add g c =
    let model = g.K.Kind.model in
    let loop = c.loop-i.invariant in
    let read = loop_read loop c.loop-i.i c.args.route.apart c.get-row.ensures in
    let gives = rewritten_here model c.args.to c.args.from c.get-row.result c.if-row-from.true in
    rw (moved_joined model c.args.to c.args.from (at (table_in c.args.lists.now) c.args.route.source.number))
    (loop_stop loop (omega arith) read gives c.args.route.dest.known c.from_residual.result c.from_residual.ensures.1
    c.in_err-add.ensures)

pub loop-i-preserved : goal.loop-i-preserved
loop-i-preserved g c =
    let model = g.K.Kind.model in
    let loop = c.loop-i.invariant in
    let read = loop_read loop c.loop-i.i c.args.route.apart c.get-row.ensures in
    elim c.if-row-from.branch [
      | then-row-from+in_ok-add w ↦
          let gives = rewritten_here model c.args.to c.args.from c.get-row.result w.if-row-from.true in
          rw w.lists-is (loop_more loop (omega arith) read gives c.args.route.dest.known w.in_ok-add.ensures)
      | else-row-from w ↦
          let none = rewritten_not model c.args.to c.args.from c.get-row.result w.if-row-from.false in
          rw w.lists-is (loop_skip loop (omega arith) read none)
    ]

pub returns : goal.returns
returns g c =
    rw (moved_joined g.K.Kind.model c.args.to c.args.from (at (table_in c.args.lists.now) c.args.route.source.number))
    (loop_all c.loop-i.invariant (omega arith))
