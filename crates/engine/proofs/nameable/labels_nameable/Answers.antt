use Rattle.std.proofs.Common.{rules, tests, ◌∙◌}
use Rattle.flow.specs.Graph.{Label}
use Rattle.flow.specs.Held.{label_of}
use Rattle.std.specs.List.{list_all}
use Rattle.engine.proofs.Labels.{every_map}
use Rattle.engine.proofs.nameable.labels_nameable.Goals as goal
use Rattle.std.proofs.lemmas.Iterator.{YieldsList-from_slice}
use Rattle.std.proofs.lemmas.Iterator.Search.{all_from_yields_List}

pub returns : goal.returns
returns g c =
    let takes = list_all g.K.Kind.model.nameable in
    all_from_yields_List (λ x. takes (label_of x).values) _ _ _ c.all.ensures.ran
    (YieldsList-from_slice c.args.labels.now cc) (λ x b q k. search (rules, tests))
    ∙ every_map (λ (l : Label). takes l.values) label_of c.args.labels.now
