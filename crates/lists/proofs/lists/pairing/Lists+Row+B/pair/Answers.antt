use Rattle.std.proofs.Common.{[], ◌∷◌, sym, ap, arith}
use Rattle.lists.specs.Lent.{table_in}
use Rattle.lists.specs.Tables.{at}
use Rattle.lists.proofs.Loops.{loop_all, loop_more, loop_other, loop_read, loop_stop}
use Rattle.lists.proofs.Pairs.{pairs_joined}
use Rattle.lists.proofs.lists.pairing.Lists+Row+B.pair.Goals as goal
use Rattle.logic.specs.Adding.{pairs}

pub returns-in_err-pair_row : goal.returns-in_err-pair_row
returns-in_err-pair_row g c =
    let model = g.K.Kind.model in
    let table = table_in c.args.self.now in
    let loop = c.loop-i.invariant in
    let read = loop_read loop c.loop-i.i c.requires.first_apart c.get-row.ensures in
    let gives = ap (pairs model (c.get-row.result ∷ [])) (sym (loop_other loop c.requires.second_apart)) in
    rw (pairs_joined model (at table c.args.first.number) (at table c.args.second.number))
    (loop_stop loop (omega arith) read gives c.args.dest.known c.from_residual.result c.from_residual.ensures.1
    c.in_err-pair_row.ensures)

pub loop-i-preserved : goal.loop-i-preserved
loop-i-preserved g c =
    let loop = c.loop-i.invariant in
    let read = loop_read loop c.loop-i.i c.requires.first_apart c.get-row.ensures in
    let gives = ap (pairs g.K.Kind.model (c.get-row.result ∷ [])) (sym (loop_other loop c.requires.second_apart)) in
    loop_more loop (omega arith) read gives c.args.dest.known c.in_ok-pair_row.ensures

pub returns : goal.returns
returns g c =
    let table = table_in c.args.self.now in
    rw (pairs_joined g.K.Kind.model (at table c.args.first.number) (at table c.args.second.number))
    (loop_all c.loop-i.invariant (omega arith))
