-- The trials come out as they are to.
use Rattle.logic.proofs.Passing.{trials_pass}
use Rattle.logic.proofs.promises.trials_pass.Goals as goal

pub returns : goal.returns
returns c = trials_pass
