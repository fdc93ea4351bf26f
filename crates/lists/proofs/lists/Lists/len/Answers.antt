use Rattle.std.proofs.Common.{sym}
use Rattle.lists.proofs.Lent.{length-at_table}
use Rattle.lists.proofs.lists.Lists.len.Goals as goal

pub returns : goal.returns
returns g c = sym (length-at_table c.args.self.now c.args.list.known)
