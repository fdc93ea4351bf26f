use Rattle.std.proofs.Common.{◌≡◌, ◌-◌}
use Rattle.flow.specs.Limits.{variables}
use Rattle.rows.specs.Denials.{besides_left, elsewhere_left}
use Rattle.rows.proofs.denial.Denial.next_beside.Given as goal

-- as much is left as at the start
abbrev pub invariant-loop-self : goal.invariant-loop-self
invariant-loop-self g l = record {
  beside : besides_left g.K.Kind.model l.self ≡ besides_left g.K.Kind.model l.initial.self;
  elsewhere : elsewhere_left g.K.Kind.model l.self ≡ elsewhere_left g.K.Kind.model l.initial.self;
}

abbrev pub decreases-loop-self : goal.decreases-loop-self
decreases-loop-self g l = variables - l.self.variable
