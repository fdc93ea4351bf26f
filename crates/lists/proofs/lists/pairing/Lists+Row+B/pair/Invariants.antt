use Rattle.std.proofs.Common.{[], ◌∷◌}
use Rattle.lists.specs.Lent.{table_in}
use Rattle.lists.specs.Tables.{at}
use Rattle.lists.proofs.Loops.{Looped}
use Rattle.lists.proofs.lists.pairing.Lists+Row+B.pair.Given as goal
use Rattle.logic.specs.Adding.{pairs}

-- for each row of the first list its pairing with the second is added
abbrev pub invariant-loop-i : goal.invariant-loop-i
invariant-loop-i g l =
    let table = table_in l.initial.self in
    Looped g.K.Kind.model l.initial.self l.self l.fn.dest.number
    (λ row. pairs g.K.Kind.model (row ∷ []) (at table l.fn.second.number)) (at table l.first.number) l.i
