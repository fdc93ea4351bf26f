use Rattle.std.proofs.Common.{ap, refl}
use Rattle.lists.specs.Lent.{table_in}
use Rattle.lists.proofs.Cuts.{cut_clear}
use Rattle.lists.proofs.lists.Lists.clear.Goals as goal

-- said here, and first, so that a body which writes a row is refused for just that
pub returns-clause-as_they_were : goal.returns-clause-as_they_were
returns-clause-as_they_were g c = refl

pub returns-clause-puts : goal.returns-clause-puts
unfolding table_in
returns-clause-puts g c =
    let l = c.args.self.now in
    record {
      same_rows = refl;
      as_many = refl;
      puts = ap (λ lists. record { limit = l.limit; lists = lists })
          (cut_clear l.limit l.lengths l.rows.now c.args.list.number);
    }
