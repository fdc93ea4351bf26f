use Rattle.std.proofs.Common.{rules}
use Rattle.lists.specs.Formed.{formed_in}
use Rattle.lists.proofs.witnesses.Witnesses.as_slice.Goals as goal

pub returns : goal.returns
unfolding formed_in
returns g c = search rules
