use Rattle.std.proofs.Common.{◌≡◌, ◌+◌, ◌-◌, ◌*◌, get_or, drop, set, refl, sym, ap, ◌∙◌, arith, length-drop}
use Rattle.lists.specs.Lent.{cut, table_in}
use Rattle.lists.proofs.Copies.{cut_paste}
use Rattle.lists.proofs.Lent.{at_table, rows_in, stretch}
use Rattle.lists.proofs.lists.Lists.copy.Goals as goal
use Rattle.std.proofs.Math.Seq.{paste}

pub returns : goal.returns
unfolding table_in
returns g c =
    let l = c.args.self.now in
    let from = c.args.from.number in
    let to = c.args.to.number in
    let start = from * l.limit in
    let count = get_or l.lengths from 0 in
    let long : (start + count) - start ≡ count = omega arith in
    let whole = stretch l c.args.from.known in
    let rest = drop start l.rows.now in
    let pasted = cut_paste l.limit l.lengths l.rows.now rest to count (omega (arith, l.many, c.args.to.known)) l.within
    (l.within from) (simp length-drop (omega (arith, whole))) (rows_in l c.args.to.known count (l.within from)) in
    record {
      same_rows = refl;
      as_many = c.copy_within.ensures.len;
      puts = ap (λ lists. record { limit = l.limit; lists = lists })
          (ap (λ rows. cut l.limit (set l.lengths to count) rows)
          (c.copy_within.ensures.after ∙ ap (λ n. paste l.rows.now (to * l.limit) rest n) long)
          ∙ pasted ∙ ap (λ rows. set (cut l.limit l.lengths l.rows.now) to rows) (sym (at_table l c.args.from.known)));
    }
