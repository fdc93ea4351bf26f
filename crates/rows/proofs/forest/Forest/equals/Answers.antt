use Rattle.std.proofs.Common.{rules}
use Rattle.rows.specs.Forests.{alike}
use Rattle.rows.proofs.Members.{alike_members}
use Rattle.rows.proofs.forest.Forest.equals.Goals as goal

pub returns-clause-members : goal.returns-clause-members
unfolding alike
returns-clause-members c =
    rw c.eq.ensures
    (alike_members c.args.self.now c.args.other.now (search rules) (λ i. search rules) (λ i. search rules))
