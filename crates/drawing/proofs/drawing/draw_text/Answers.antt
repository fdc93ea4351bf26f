use Rattle.std.proofs.Common.{length, ap, arith}
use Rattle.drawing.proofs.Whole.{drawn_first, whole}
use Rattle.drawing.proofs.drawing.draw_text.Goals as goal

pub show_done-requires : goal.show_done-requires
show_done-requires c =
    let first = rw (c.begin-draft.ensures, c.new-splitter.ensures.count, c.new-splitter.ensures.left) at
    c.follow_records-first.ensures in
    let case = c.close-case.ensures in
    let fewer = drawn_first first case.graph case.sheet c.follow_records-second.ensures in
    omega (arith, ap length c.edges-drawn.ensures.drawn)

pub returns : goal.returns
returns c =
    let first = rw (c.begin-draft.ensures, c.new-splitter.ensures.count, c.new-splitter.ensures.left) at
    c.follow_records-first.ensures in
    let case = c.close-case.ensures in
    whole first case.graph case.sheet c.follow_records-second.ensures c.show_case.ensures
    (rw c.edges-drawn.ensures.drawn at c.show_done.ensures)
