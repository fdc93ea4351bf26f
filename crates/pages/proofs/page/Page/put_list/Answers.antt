use Rattle.std.proofs.Common.{ℕ, List, refl, arith}
use Rattle.std.proofs.lemmas.Grind.{common_steps}
use Rattle.pages.proofs.Adding.{printing}
use Rattle.pages.proofs.Runs.{ran_empty, ran_on}
use Rattle.pages.specs.Pages.{Prints, add}
use Rattle.pages.specs.Spaced.{spaced}
use Rattle.pages.proofs.page.Page.put_list.Goals as goal

pub returns-in_default-clause-prints : goal.returns-in_default-clause-prints
unfolding add
returns-in_default-clause-prints g c =
    let was = c.args.self.now in
    ran_empty g.I.Iterator.next_gives c.args.numbers (λ ns. Prints was (spaced ns) was) c.in_default.ensures.steps refl

pub returns-in-None-clause-prints : goal.returns-in-None-clause-prints
returns-in-None-clause-prints g c =
    let printed : List ℕ → Type 0 = λ ns. Prints c.args.self.now (spaced ns) c.loop-n.self in
    ran_on g.I.Iterator.next_gives c.args.numbers printed c.in-Some.ensures.steps (cc) c.loop-n.yielded_by
    c.in-None.ensures.steps (grind (arith, common_steps, printing))
