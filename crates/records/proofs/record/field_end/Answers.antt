use Rattle.std.proofs.Common.{length, rules, tests, unwrap_or, ap, ◌∙◌, arith, ◌==◌}
use Rattle.std.proofs.lemmas.Iterator.{YieldsList-from_slice}
use Rattle.std.proofs.lemmas.Iterator.Search.{position_from_yields_List}
use Rattle.records.proofs.Fields.{end_found, end_within}
use Rattle.records.proofs.record.field_end.Goals as goal

pub returns-clause-at : goal.returns-clause-at
returns-clause-at c =
    let text = c.args.text.now in
    let found = position_from_yields_List (λ b. b == 44) _ _ c.position.result c.position.ensures.ran
    (YieldsList-from_slice text cc) (λ x b q k. search (rules, tests)) in
    c.unwrap_or.ensures ∙ ap (λ r. unwrap_or r (length text)) found ∙ end_found text

pub returns-clause-within : goal.returns-clause-within
returns-clause-within c =
    let at = returns-clause-at c in
    omega (arith, end_within c.args.text.now)
