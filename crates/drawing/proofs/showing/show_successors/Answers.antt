use Rattle.std.proofs.Common.{rules, tests, ◌==◌}
use Rattle.drawing.proofs.showing.show_successors.Goals as goal
use Rattle.flow.proofs.Successors.{ends_filter}
use Rattle.pages.proofs.Runs.{spaced_over}
use Rattle.std.proofs.lemmas.Iterator.{YieldsList-from_map, YieldsList-from_slice}
use Rattle.std.proofs.lemmas.Iterator.Consumers.{YieldsList-at, YieldsList-from_filter}

-- The loop that must-fail/successors_without_spaces.edit plants keeps its invariant by these lines, which it brings in.
-- use Rattle.pages.proofs.Adding.{add-add, add_nothing}
-- use Rattle.std.proofs.lemmas.Grind.{common_steps}
-- pub loop-to-preserved : goal.loop-to-preserved
-- loop-to-preserved c = (grind (arith, common_steps), grind (arith, common_steps, add-add, add_nothing))

pub returns : goal.returns
returns c =
    let edges = c.args.edges.now in
    rw (ends_filter edges c.args.state)
    (spaced_over _ _ c.put_list.ensures.prints
    (YieldsList-from_map _ (λ e. e.to)
    (YieldsList-at c.map-successors.ensures.source
    (YieldsList-from_filter _ (λ e. e.from == c.args.state)
    (YieldsList-at c.filter.ensures.source (YieldsList-from_slice edges cc))
    c.filter.ensures.closure (λ x b q k. search (rules, tests))))
    c.map-successors.ensures.closure (λ x r q k. search rules)))
