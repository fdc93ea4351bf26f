use Rattle.std.proofs.Common.{◌≡◌, drop, length, Some}
use Rattle.logic.specs.Operators.{naming}
use Rattle.engine.proofs.operators.predicate.named_row.Given as goal

-- what is left to name, from the row now, comes to what all of it comes to
abbrev pub invariant-loop-x : goal.invariant-loop-x
invariant-loop-x g l =
    let i = length l.yielded in
    naming g.K.Kind.model (Some l.row) (drop i l.atom.variables.now) (drop i l.values)
    ≡ naming g.K.Kind.model (Some l.start) l.atom.variables.now l.values
