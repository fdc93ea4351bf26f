use Rattle.std.proofs.Common.{◌≡◌, sym, refl, ap, ◌∙◌, rules}
use Rattle.std.proofs.iter.runs.Sources.{ranges}
use Rattle.std.proofs.lemmas.Iterator.{YieldsList-from_range}
use Rattle.std.proofs.lemmas.Iterator.Consumers.{YieldsList-at, nth_from_yields_List}
use Rattle.std.proofs.lemmas.Iterator.Adapters.{option_map_id}
use Rattle.std.proofs.lemmas.Option.{slice_get-map}
use Rattle.std.specs.Option.{option_map}
use Rattle.kinds.proofs.NameWalk.{numbers_walked}
use Rattle.kinds.specs.Fragments.{named, numbers}
use Rattle.kinds.specs.Names.{names}
use Rattle.kinds.proofs.fragments.fragment.NameSet.nth.Goals as goal

pub map-requires : goal.map-requires
map-requires c = search (rules, ranges)

pub returns : goal.returns
returns c =
    let bits = c.args.self.bits in
    let mapped : c.map.result ≡ option_map named c.nth.result = search rules in
    let all = YieldsList-at c.filter.ensures.source (YieldsList-from_range 0 names names refl refl) in
    let found =
    nth_from_yields_List c.nth.result _ c.args.i c.nth.ensures.ran
    (numbers_walked _ bits 0 names all c.filter.ensures.closure (λ x b q k. search rules)) in
    mapped ∙ ap (option_map named) (sym (option_map_id c.nth.result) ∙ found)
    ∙ sym (slice_get-map named (numbers bits) c.args.i)
