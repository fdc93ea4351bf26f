use Rattle.std.proofs.Common.{◌++◌, ap, ◌∙◌, Some, None, rules}
use Rattle.rows.specs.Denials.{besides_left, left}
use Rattle.rows.proofs.Denied.{elsewhere_find, left_beside, nearer_end}
use Rattle.rows.proofs.denial.DenialIterator.next.Goals as goal

pub returns-in-Some-clause-steps : goal.returns-in-Some-clause-steps
unfolding left
returns-in-Some-clause-steps g c =
    let m = g.K.Kind.model in
    let d = c.args.self.now in
    rw c.blank.ensures
    (ap (λ rows. rows ++ besides_left m d)
    (elsewhere_find m d.of _ _ (λ x b q k. search rules) d.states c.find.new.self (Some c.in-Some.state)
    c.in-Some.ensures.ran))

pub returns-in-Some-clause-goes : goal.returns-in-Some-clause-goes
returns-in-Some-clause-goes g c =
    nearer_end (left g.K.Kind.model) _ _ (Some c.blank.result) (returns-in-Some-clause-steps g c)

pub returns-in-None-clause-steps : goal.returns-in-None-clause-steps
returns-in-None-clause-steps g c =
    let m = g.K.Kind.model in
    let d = c.args.self.now in
    let none =
    elsewhere_find m d.of _ _ (λ x b q k. search rules) d.states c.find.new.self None c.in-None.ensures.ran in
    left_beside m d c.next_beside.new.self c.next_beside.result none.0 (c.next_beside.ensures.same ∙ none.1)
    c.next_beside.ensures.next

pub returns-in-None-clause-goes : goal.returns-in-None-clause-goes
returns-in-None-clause-goes g c =
    nearer_end (left g.K.Kind.model) _ _ c.next_beside.result (returns-in-None-clause-steps g c)
