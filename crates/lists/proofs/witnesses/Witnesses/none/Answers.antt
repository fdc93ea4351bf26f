use Rattle.std.proofs.Common.{refl}
use Rattle.lists.specs.Formed.{formed_in}
use Rattle.lists.proofs.witnesses.Witnesses.none.Goals as goal

pub returns-clause-none : goal.returns-clause-none
unfolding formed_in
returns-clause-none g c = refl
