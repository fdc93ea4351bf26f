use Rattle.std.proofs.Common.{◌∙◌, rules}
use Rattle.std.proofs.lemmas.Iterator.{YieldsList-from_slice, YieldsList-from_zip}
use Rattle.std.proofs.lemmas.Iterator.Search.{all_from_yields_List}
use Rattle.rows.proofs.Boxes.{same_boxes-zip}
use Rattle.rows.proofs.row.same_boxes.Goals as goal

pub returns : goal.returns
returns g c =
    let m = g.K.Kind.model in
    all_from_yields_List (λ p. m.same p.0 p.1) c.all.new.self _ _ c.all.ensures.ran
    (YieldsList-from_zip
    (YieldsList-from_slice c.args.ours.now cc)
    (YieldsList-from_slice c.args.theirs.now cc))
    (λ x b q k. search rules)
    ∙ same_boxes-zip m c.args.ours.now c.args.theirs.now (search rules)
