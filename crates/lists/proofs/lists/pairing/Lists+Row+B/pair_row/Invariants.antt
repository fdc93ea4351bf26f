use Rattle.lists.specs.Lent.{table_in}
use Rattle.lists.specs.Tables.{at}
use Rattle.lists.proofs.Loops.{Looped}
use Rattle.lists.proofs.Pairs.{joint}
use Rattle.lists.proofs.lists.pairing.Lists+Row+B.pair_row.Given as goal

-- for each row of the list what the row joins to with it is added
abbrev pub invariant-loop-i : goal.invariant-loop-i
invariant-loop-i g l =
    let rows = at (table_in l.initial.self) l.route.source.number in
    Looped g.K.Kind.model l.initial.self l.self l.route.dest.number (joint g.K.Kind.model l.row) rows l.i
