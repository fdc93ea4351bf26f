use Rattle.std.proofs.Common.{rules, sym, ◌∙◌, tests, ◌==◌}
use Rattle.flow.proofs.Successors.{ends_filter}
use Rattle.flow.proofs.case.Case.successor.Goals as goal
use Rattle.std.proofs.lemmas.Iterator.{YieldsList-from_map, YieldsList-from_slice}
use Rattle.std.proofs.lemmas.Iterator.Adapters.{option_map_id}
use Rattle.std.proofs.lemmas.Iterator.Consumers.{YieldsList-at, YieldsList-from_filter, nth_from_yields_List}

pub returns : goal.returns
returns c =
    let edges = c.args.self.now.graph.edges in
    rw (ends_filter edges c.args.state)
    (sym (option_map_id c.nth.result)
    ∙ nth_from_yields_List c.nth.result c.nth.new.self c.args.i c.nth.ensures.ran
    (YieldsList-from_map _ (λ e. e.to)
    (YieldsList-at c.map.ensures.source
    (YieldsList-from_filter _ (λ e. e.from == c.args.state)
    (YieldsList-at c.filter.ensures.source (YieldsList-from_slice edges cc))
    c.filter.ensures.closure (λ x b q k. search (rules, tests))))
    c.map.ensures.closure (λ x r q k. search rules)))
