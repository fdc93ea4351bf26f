use Rattle.std.proofs.Common.{rules, ◌∙◌, ◌==◌}
use borrow.Author.Tests.{tests}
use Rattle.std.proofs.lemmas.Iterator.{YieldsList-from_take}
use Rattle.std.proofs.lemmas.Iterator.Consumers.{YieldsList-at, count_from_yields_List}
use Rattle.std.proofs.lemmas.Iterator.Splits.{YieldsList-from_slice_split}
use Rattle.std.proofs.lemmas.List.{length-take}
use Rattle.records.specs.Texts.{fields}
use Rattle.records.proofs.record.Record.field_count.Goals as goal

pub returns : goal.returns
returns c =
    let s = c.split.ensures in
    let text = c.args.self.now.text.now in
    count_from_yields_List c.take.result c.count.result c.count.ensures.ran
    (YieldsList-from_take c.args.most
    (YieldsList-at c.take.ensures.source
    (YieldsList-from_slice_split _ (λ b. b == 44) text s.rest s.done s.closure
    (λ x b q k. search (rules, tests)))) c.take.ensures.count)
    ∙ length-take c.args.most (fields text)
