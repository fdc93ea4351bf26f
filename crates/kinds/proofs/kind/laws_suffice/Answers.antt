use Rattle.kinds.proofs.Consequences.{consequences}
use Rattle.kinds.proofs.kind.laws_suffice.Goals as goal

pub returns : goal.returns
returns g c = consequences g.met.K.Kind.lawful
