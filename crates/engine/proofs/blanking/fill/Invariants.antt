use Rattle.std.proofs.Common.{◌≡◌, ◌++◌, drop, replicate}
use Rattle.engine.proofs.blanking.fill.Given as goal

-- those before the index are this value, and the others as they were
abbrev pub invariant-loop-x : goal.invariant-loop-x
invariant-loop-x g l = l.table ≡ replicate l.x-index l.value ++ drop l.x-index l.initial.table
