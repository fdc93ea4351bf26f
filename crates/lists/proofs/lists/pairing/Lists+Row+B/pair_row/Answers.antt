use Rattle.std.proofs.Common.{sym, ap, arith}
use Rattle.lists.specs.Lent.{table_in}
use Rattle.lists.specs.Tables.{at}
use Rattle.lists.proofs.Loops.{loop_all, loop_more, loop_read, loop_skip, loop_stop}
use Rattle.lists.proofs.Pairs.{pairs_one}
use Rattle.lists.proofs.lists.pairing.Lists+Row+B.pair_row.Goals as goal
use Rattle.lists.proofs.lists.pairing.Lists+Row+B.pair_row.Goals.{in-Some+in_ok-add, in_default}
use Rattle.std.specs.Option.{option_to_list}

pub returns-in_err-add : goal.returns-in_err-add
returns-in_err-add g c =
    let loop = c.loop-i.invariant in
    let read = loop_read loop c.loop-i.i c.args.route.apart c.get-other.ensures in
    let gives = ap option_to_list (sym c.in-Some.ensures) in
    rw (pairs_one g.K.Kind.model c.args.row (at (table_in c.args.self.now) c.args.route.source.number))
    (loop_stop loop (omega arith) read gives c.args.route.dest.known c.from_residual.result c.from_residual.ensures.1
    c.in_err-add.ensures)

pub loop-i-preserved : goal.loop-i-preserved
loop-i-preserved g c =
    let loop = c.loop-i.invariant in
    let read = loop_read loop c.loop-i.i c.args.route.apart c.get-other.ensures in
    elim c.match-join.branch [
      | in-Some+in_ok-add w ↦
          let gives = ap option_to_list (sym w.in-Some.ensures) in
          rw w.self-is (loop_more loop (omega arith) read gives c.args.route.dest.known w.in_ok-add.ensures)
      | in_default w ↦
          let none = ap option_to_list (sym w.in_default.ensures) in
          rw w.self-is (loop_skip loop (omega arith) read none)
    ]

pub returns : goal.returns
returns g c =
    rw (pairs_one g.K.Kind.model c.args.row (at (table_in c.args.self.now) c.args.route.source.number))
    (loop_all c.loop-i.invariant (omega arith))
