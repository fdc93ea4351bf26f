use Rattle.std.proofs.Common.{◌++◌, codes, decimal}
use Rattle.std.specs.List.{flat_map}
use Rattle.pages.specs.Pages.{Prints}
use Rattle.pages.proofs.page.Page.put_list.Given as goal

-- the numbers up to here are printed, each after a space
abbrev pub invariant-loop-n : goal.invariant-loop-n
invariant-loop-n g l = record {
  can : (goal.iterator-loop-n g).can_next l.n-iterator;
  ends : (goal.iterator-loop-n g).is_finite l.n-iterator;
  printed : Prints l.initial.self (flat_map (λ n. codes " " ++ decimal n) l.yielded) l.self;
}
