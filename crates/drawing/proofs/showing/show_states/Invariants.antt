use Rattle.drawing.specs.Shown.{states_text}
use Rattle.drawing.proofs.showing.show_states.Given as goal
use Rattle.pages.specs.Pages.{Prints}

-- the states passed are printed
abbrev pub invariant-loop-state : goal.invariant-loop-state
invariant-loop-state l = Prints l.initial.page (states_text l.case.graph l.state) l.page
