use Rattle.lists.specs.Lent.{table_in}
use Rattle.lists.specs.Tables.{at}
use Rattle.lists.proofs.Loops.{Looped}
use Rattle.logic.specs.Operators.{rewritten}
use Rattle.engine.proofs.operators.some_next.add_moved.Given as goal

-- each row of the list that is at the one state is added, rewritten to the other
abbrev pub invariant-loop-i : goal.invariant-loop-i
invariant-loop-i g l =
    Looped g.K.Kind.model l.initial.lists l.lists l.route.dest.number (rewritten g.K.Kind.model l.to l.from)
    (at (table_in l.initial.lists) l.route.source.number) l.i
