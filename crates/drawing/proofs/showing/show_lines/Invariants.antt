use Rattle.std.proofs.Common.{map, take}
use Rattle.drawing.specs.Shown.{lines_text}
use Rattle.drawing.proofs.showing.show_lines.Given as goal
use Rattle.flow.specs.Held.{line_of}
use Rattle.pages.specs.Pages.{Prints}

-- the lines up to here are printed
abbrev pub invariant-loop-number : goal.invariant-loop-number
invariant-loop-number l =
    Prints l.initial.page (lines_text 0 (map line_of (take l.number l.line-items))) l.page
