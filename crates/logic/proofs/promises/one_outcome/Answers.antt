-- Every check comes to exactly one outcome.
use Rattle.logic.proofs.Ending.{every_check_has_one_outcome}
use Rattle.logic.proofs.promises.one_outcome.Goals as goal

pub returns : goal.returns
returns g c = every_check_has_one_outcome g.K.Kind.model
