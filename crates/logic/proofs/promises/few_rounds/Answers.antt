-- An until takes few rounds.
use Rattle.logic.proofs.Ending.{rounds_are_few}
use Rattle.logic.proofs.promises.few_rounds.Goals as goal

pub returns : goal.returns
returns g c = rounds_are_few g.K.Kind.model
