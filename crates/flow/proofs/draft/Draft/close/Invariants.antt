use Rattle.std.proofs.Common.{◌≡◌, ◌++◌}
use Rattle.flow.specs.Closed.{loops}
use Rattle.flow.proofs.draft.Draft.close.Given as goal

-- the states passed have what closing adds for them
abbrev pub invariant-loop-state : goal.invariant-loop-state
invariant-loop-state l = l.edges ≡ l.initial.edges ++ loops l.initial.edges l.state
