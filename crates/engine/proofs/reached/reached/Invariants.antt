use Rattle.std.proofs.Common.{◌≡◌, map, length, take}
use Rattle.flow.specs.Held.{line_of}
use Rattle.logic.specs.Reached.{marked_below, reached}
use Rattle.engine.proofs.reached.reached.Given as goal
use Rattle.engine.specs.Marks.{marked}
use Rattle.std.specs.Slice.Iter.{iter_rest}

-- the lines still to come are those at the front, and what they mark, from the marks now, comes to the lines that are
-- reached
abbrev pub invariant-loop-i : goal.invariant-loop-i
invariant-loop-i l =
    let ls = map line_of l.lines in
    let left = iter_rest l.i-iterator.iter.iter in
    record {
      lines_left : left ≡ take (length left) l.lines;
      from_none : l.i-iterator.iter.count ≡ 0;
      reaching : marked_below ls (length left) (marked l.marks) ≡ reached ls l.asked;
    }
