-- The lines that are worked are those that are reached.
use Rattle.logic.proofs.Marking.{reached_lines_are_marked}
use Rattle.logic.proofs.promises.reached_lines.Goals as goal

pub returns : goal.returns
returns c = reached_lines_are_marked
