use Rattle.std.proofs.Common.{map, take}
use Rattle.drawing.specs.Shown.{label_fields}
use Rattle.drawing.proofs.showing.show_labels.Given as goal
use Rattle.flow.specs.Held.{label_of}
use Rattle.pages.specs.Pages.{Prints}

-- the labels up to here are printed
abbrev pub invariant-loop-label : goal.invariant-loop-label
invariant-loop-label l =
    Prints l.initial.page (label_fields (map label_of (take l.label-index l.labels)) l.state) l.page
