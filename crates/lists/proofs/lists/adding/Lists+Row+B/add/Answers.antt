use Rattle.std.proofs.Common.{Ok, sym, ap, refl, ◌∙◌, arith}
use Rattle.lists.specs.Lent.{table_in}
use Rattle.lists.proofs.Added.{adding_full, adding_new, adding-told}
use Rattle.lists.proofs.Lent.{puts_limit, table_limit}
use Rattle.lists.proofs.lists.adding.Lists+Row+B.add.Goals as goal

pub returns-then-tells : goal.returns-then-tells
returns-then-tells g c =
    let l = c.args.self.now in
    let told = adding-told g.K.Kind.model (table_in l) c.args.list.number c.args.row (sym c.if-tells.ensures) in
    record { same_rows = refl; as_many = refl; same_limit = refl; adds = sym told }

pub returns-then-len-self : goal.returns-then-len-self
returns-then-len-self g c =
    let l = c.args.self.now in
    let full = adding_full g.K.Kind.model (table_in l) c.args.list.number c.args.row (sym c.if-tells.ensures)
    (omega (arith, table_limit l, c.len.ensures)) in
    record { same_rows = refl; as_many = refl; same_limit = refl; adds = sym full }

pub returns : goal.returns
returns g c =
    let l = c.args.self.now in
    let new = adding_new g.K.Kind.model (table_in l) c.args.list.number c.args.row (sym c.if-tells.ensures)
    (omega (arith, table_limit l, c.len.ensures)) in
    record {
      same_rows = c.push.ensures.same_rows;
      as_many = c.push.ensures.as_many;
      same_limit = puts_limit c.push.ensures;
      adds = ap Ok c.push.ensures.puts ∙ sym new;
    }
