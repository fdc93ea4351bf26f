use Rattle.std.proofs.Common.{take}
use Rattle.pages.specs.Pages.{Prints}
use Rattle.pages.proofs.page.Page.put_all.Given as goal

-- the bytes up to here are printed
abbrev pub invariant-loop-b : goal.invariant-loop-b
invariant-loop-b l = Prints l.initial.self (take l.b-index l.bytes) l.self
