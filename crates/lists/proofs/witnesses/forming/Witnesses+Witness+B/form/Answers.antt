use Rattle.std.proofs.Common.{Ok, length, sym, ap, refl, ◌∙◌, arith}
use Rattle.lists.specs.Formed.{formed_in}
use Rattle.lists.proofs.Numbers.{fit_full, fit_new, fit_old, forms_all, length_formed, number_below}
use Rattle.lists.proofs.witnesses.forming.Witnesses+Witness+B.form.Goals as goal
use Rattle.std.proofs.lemmas.List.{length-set, take_more_set}

pub overflow_cast-result : goal.overflow_cast-result
overflow_cast-result g c =
    let ws = c.args.self.now in
    let below = number_below g.K.Kind.model (formed_in ws) c.args.witness 0 c.in-Some.n c.in-Some.ensures in
    omega (arith, below, length_formed ws)

pub returns-in-Some-clause-within : goal.returns-in-Some-clause-within
returns-in-Some-clause-within g c =
    let ws = c.args.self.now in
    let old = fit_old g.K.Kind.model (formed_in ws) c.args.witness (length ws.table.now) c.in-Some.n
    (sym c.in-Some.ensures) (omega (arith, length_formed ws, ws.lent)) in
    record { same_table = refl; as_many = refl; forms = sym old }

pub returns-in-Some-clause-fits : goal.returns-in-Some-clause-fits
returns-in-Some-clause-fits g c wide = forms_all g.K.Kind.model (returns-in-Some-clause-within g c) wide

pub returns-then-n-min-clause-within : goal.returns-then-n-min-clause-within
returns-then-n-min-clause-within g c =
    let ws = c.args.self.now in
    let full = fit_full g.K.Kind.model (formed_in ws) c.args.witness (length ws.table.now)
    (sym c.in_default.ensures) (omega (arith, length_formed ws, c.min.ensures)) in
    record { same_table = refl; as_many = refl; forms = sym full }

pub returns-then-n-min-clause-fits : goal.returns-then-n-min-clause-fits
returns-then-n-min-clause-fits g c wide = forms_all g.K.Kind.model (returns-then-n-min-clause-within g c) wide

-- found without an answer too, but not of a body that writes the count as it was
pub returns-then-n-min-clause-kept : goal.returns-then-n-min-clause-kept
unfolding formed_in
returns-then-n-min-clause-kept g c = refl

pub returns-clause-within : goal.returns-clause-within
unfolding formed_in
returns-clause-within g c =
    let ws = c.args.self.now in
    let new = fit_new g.K.Kind.model (formed_in ws) c.args.witness (length ws.table.now)
    (sym c.in_default.ensures) ws.count (length_formed ws) (omega (arith, c.min.ensures)) (omega (arith, c.min.ensures)) in
    record {
      same_table = refl;
      as_many = length-set ws.table.now ws.count c.args.witness;
      forms = ap (λ us. Ok (record { witnesses = us; number = ws.count }))
          (take_more_set ws.table.now ws.count c.args.witness (omega (arith, c.min.ensures)))
          ∙ sym new;
    }

pub returns-clause-fits : goal.returns-clause-fits
returns-clause-fits g c wide = forms_all g.K.Kind.model (returns-clause-within g c) wide
