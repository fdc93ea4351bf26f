use Rattle.std.proofs.Common.{[], ◌∷◌, length, Some, sym, ◌∙◌, rules}
use Rattle.engine.proofs.NamedRows.{naming_more, naming_uneven, variable_at}
use Rattle.engine.proofs.operators.predicate.named_row.Goals as goal
use Rattle.std.proofs.lemmas.List.{length-append}
use Rattle.std.proofs.lemmas.Slice.Zip.{zip_turn}

pub returns-then-atom-values : goal.returns-then-atom-values
returns-then-atom-values g c =
    sym (naming_uneven g.K.Kind.model (Some c.args.start.now) c.args.atom.now.variables.now c.args.values.now
    c.if-atom-values.true)

pub invariant_of-variable : goal.invariant_of-variable
invariant_of-variable g c =
    let xs = c.args.atom.now.variables.now in
    let ns = c.args.values.now in
    let turn = zip_turn xs ns c.loop-x.yielded _ _ c.next.new.self _ (search rules) (search rules) c.loop-x.yielded_by
    (c.in-Some.x, c.in-Some.n) c.in-Some.is c.next.ensures.steps in
    let small = variable_at xs (length c.loop-x.yielded) c.args.atom.now.small turn.0 in
    record { known = rw (turn.2 0) small }

pub loop-x-preserved : goal.loop-x-preserved
loop-x-preserved g c =
    let m = g.K.Kind.model in
    let xs = c.args.atom.now.variables.now in
    let ns = c.args.values.now in
    let i = length c.loop-x.yielded in
    let turn = zip_turn xs ns c.loop-x.yielded _ _ c.next.new.self _ (search rules) (search rules) c.loop-x.yielded_by
    (c.in-Some.x, c.in-Some.n) c.in-Some.is c.next.ensures.steps in
    let named = naming_more m c.loop-x.row (Some c.in_ok-row.row) xs ns i c.in-Some.x.now c.in-Some.n.now turn.0 turn.1
    (turn.2 0) (turn.3 0) (search rules) in
    rw (length-append c.loop-x.yielded ((c.in-Some.x, c.in-Some.n) ∷ [])) (named ∙ c.loop-x.invariant)
