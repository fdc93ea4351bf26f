use Rattle.std.proofs.Common.{◌≡◌, ◌+◌, ◌-◌, ◌*◌, get_or, take, drop, sym, ap, ◌∙◌, arith}
use Rattle.lists.proofs.Lent.{at_table}
use Rattle.lists.proofs.lists.Lists.rows.Goals as goal

pub returns : goal.returns
returns g c =
    let l = c.args.self.now in
    let start = c.args.list.number * l.limit in
    let n = get_or l.lengths c.args.list.number 0 in
    let long : (start + n) - start ≡ n = omega arith in
    ap (λ k. take k (drop start l.rows.now)) long ∙ sym (at_table l c.args.list.known)
