use Rattle.std.proofs.Common.{sym, ◌∙◌}
use Rattle.flow.specs.Drawn.{is_label}
use Rattle.flow.specs.Held.{label_of}
use Rattle.flow.proofs.Walks.{any_map}
use Rattle.flow.proofs.draft.hunting.labelled.Goals as goal

pub returns : goal.returns
returns c =
    let is = is_label c.args.state c.args.predicate c.args.values.now in
    c.is_held.ensures ∙ sym (any_map label_of is c.args.labels.now)
