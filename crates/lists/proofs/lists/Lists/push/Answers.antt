use Rattle.std.proofs.Common.{ap, refl, arith, rules}
use Rattle.lists.specs.Lent.{table_in}
use Rattle.lists.proofs.Cuts.{cut_push}
use Rattle.lists.proofs.Lent.{end_place, length-at_table, lengths_many, lengths_with}
use Rattle.lists.proofs.lists.Lists.push.Goals as goal
use Rattle.std.proofs.lemmas.List.{length-set}

pub offset_bounds-self-list-2 : goal.offset_bounds-self-list-2
offset_bounds-self-list-2 g c =
    let place = end_place c.args.self.now c.args.list.known c.requires in
    search rules

pub bounds-self-list-2 : goal.bounds-self-list-2
bounds-self-list-2 g c = end_place c.args.self.now c.args.list.known c.requires

pub invariant_of-self-clause-lent : goal.invariant_of-self-clause-lent
invariant_of-self-clause-lent g c = let l = c.args.self.now in rw (length-set l.rows.now _ _) l.lent

pub invariant_of-self-clause-many : goal.invariant_of-self-clause-many
invariant_of-self-clause-many g c = lengths_many c.args.self.now _ _

pub invariant_of-self-clause-within : goal.invariant_of-self-clause-within
invariant_of-self-clause-within g c =
    let long = length-at_table c.args.self.now c.args.list.known in
    lengths_with c.args.self.now _ c.args.list.known (omega (arith, c.requires, long))

pub returns : goal.returns
unfolding table_in
returns g c =
    let l = c.args.self.now in
    let known = c.args.list.known in
    let long = length-at_table l known in
    record {
      same_rows = refl;
      as_many = length-set l.rows.now _ _;
      puts = ap (λ lists. record { limit = l.limit; lists = lists })
          (cut_push l.limit l.lengths l.rows.now c.args.list.number c.args.row (omega (arith, l.many)) l.within
          (omega (arith, c.requires, long)) (end_place l known c.requires));
    }
