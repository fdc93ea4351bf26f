use Rattle.std.proofs.Common.{◌+◌, length, sym, ap, ◌∙◌, arith}
use Rattle.std.proofs.lemmas.List.{length_push}
use Rattle.stores.specs.Listed.{listed}
use Rattle.records.proofs.Collected.{after_all, after_more}
use Rattle.records.proofs.reading.numbers_from.Goals as goal

pub loop-at-preserved : goal.loop-at-preserved
loop-at-preserved c =
    let text = c.args.«record».now.text.now in
    let now = c.loop-at in
    let n = c.in_ok-number_at.field-0 in
    let ms = listed c.push.new.self in
    let long = ap length c.push.ensures ∙ length_push (listed now.numbers) n in
    let more = after_more text now.at (listed now.numbers) n ms (omega arith) (omega arith) c.in_ok-number_at.ensures
    c.push.ensures in
    record { counted = omega (arith, long); collected = now.invariant.collected ∙ more }

pub returns-in_ok-number_at : goal.returns-in_ok-number_at
returns-in_ok-number_at c =
    let text = c.args.«record».now.text.now in
    let now = c.loop-at in
    let n = c.in_ok-number_at.field-0 in
    let ms = listed c.push.new.self in
    let more = after_more text now.at (listed now.numbers) n ms (omega arith) (omega arith) c.in_ok-number_at.ensures
    c.push.ensures in
    sym (now.invariant.collected ∙ more ∙ after_all text (now.at + 1) ms (omega arith))
