use Rattle.std.proofs.Common.{◌≡◌, ◌+◌, ◌-◌, drop, take, Some, rules, tests, sym, ap, ◌∙◌, arith}
use Rattle.std.specs.List.{slice_get}
use Rattle.std.specs.Slice.Iter.{iter_rest}
use Rattle.records.specs.Texts.{fields}
use Rattle.records.proofs.Fields.{comma_found, end, field_first, field_last, field_next, no_comma}
use Rattle.records.proofs.record.nth_field.Goals as goal

pub returns-in_err-find : goal.returns-in_err-find
returns-in_err-find c =
    let rest = iter_rest c.loop.bytes in
    let none = no_comma _ (λ x b q k. search (rules, tests)) c.loop.bytes _ c.find.result c.find.ensures.ran cc in
    let last = field_last rest (c.args.skip - c.loop.counter) (omega arith) none in
    cc

pub loop-preserved : goal.loop-preserved
loop-preserved c =
    let rest = iter_rest c.loop.bytes in
    let comma = comma_found _ (λ x b q k. search (rules, tests)) c.loop.bytes _ c.find.result c.in_ok-find.field-0
    c.find.ensures.ran cc in
    let fewer : c.args.skip - c.loop.counter - 1 ≡ c.args.skip - (c.loop.counter + 1) = omega arith in
    c.loop.invariant ∙ field_next rest (c.args.skip - c.loop.counter) (omega arith) comma.0
    ∙ ap (slice_get (fields (drop (end rest + 1) rest))) fewer
    ∙ ap (λ t. slice_get (fields t) (c.args.skip - (c.loop.counter + 1))) (sym comma.1)

pub returns : goal.returns
returns c =
    let rest = iter_rest c.loop.bytes in
    let left = c.as_slice-rest.ensures.value in
    let all : c.args.skip - c.loop.counter ≡ 0 = omega arith in
    ap (λ n. Some (take n c.as_slice-rest.result.now)) c.field_end.ensures.at
    ∙ ap (λ t. Some (take (end t) t)) left
    ∙ sym (c.loop.invariant ∙ ap (slice_get (fields rest)) all ∙ field_first rest)
