use Rattle.std.proofs.Common.{Some}
use Rattle.drawing.proofs.showing.show_label.Goals as goal
use Rattle.pages.proofs.Adding.{then_add}
use Rattle.pages.proofs.Runs.{spaced_over}
use Rattle.std.proofs.lemmas.Iterator.{YieldsList-from_slice}
use Rattle.std.proofs.lemmas.Iterator.Adapters.{YieldsList-from_once}
use Rattle.std.proofs.lemmas.Iterator.Consumers.{YieldsList-at, YieldsList-from_chain, YieldsList-from_copied}
use Rattle.stores.specs.Listed.{listed}

pub returns : goal.returns
returns c =
    let label = c.args.label.now in
    let made = c.chain.ensures in
    let one = YieldsList-at made.first (YieldsList-from_once (Some label.predicate) c.once.ensures.item) in
    let others = YieldsList-at made.second
    (YieldsList-from_copied (YieldsList-at c.copied-values.ensures.source
    (YieldsList-from_slice (listed label.values) cc))) in
    then_add _ _ _ _ _ c.put.ensures
    (spaced_over _ _ c.put_list.ensures.prints (YieldsList-from_chain one others made.first_done made.second_done))
