use Rattle.std.proofs.Common.{sym}
use Rattle.lists.proofs.Numbers.{length_formed}
use Rattle.lists.proofs.witnesses.Witnesses.count.Goals as goal

pub returns : goal.returns
returns g c = sym (length_formed c.args.self.now)
