use Rattle.std.proofs.Common.{ap, refl, ◌∙◌}
use Rattle.lists.specs.Tables.{no_rows}
use Rattle.lists.proofs.Cuts.{zeros_within}
use Rattle.lists.proofs.Lent.{room_all, table_none}
use Rattle.lists.proofs.lists.Lists.new.Goals as goal

pub invariant_of-result-clause-within : goal.invariant_of-result-clause-within
invariant_of-result-clause-within g c = zeros_within 36 c.min-limit.result

pub returns-clause-empty : goal.returns-clause-empty
returns-clause-empty g c = table_none _ refl ∙ ap no_rows c.min-limit.ensures

pub returns-clause-fits : goal.returns-clause-fits
returns-clause-fits g c = λ fits. table_none _ refl ∙ ap no_rows (c.min-limit.ensures ∙ room_all c.args.rows.now fits)
