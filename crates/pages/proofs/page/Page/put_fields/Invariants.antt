use Rattle.std.proofs.Common.{take}
use Rattle.pages.specs.Pages.{Prints}
use Rattle.pages.specs.Records.{as_fields}
use Rattle.pages.proofs.page.Page.put_fields.Given as goal

-- the numbers up to here are printed
abbrev pub invariant-loop-n : goal.invariant-loop-n
invariant-loop-n l = Prints l.initial.self (as_fields (take l.n-index l.numbers)) l.self
