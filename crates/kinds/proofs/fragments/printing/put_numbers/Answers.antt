use Rattle.std.proofs.Common.{refl, rules}
use Rattle.std.proofs.lemmas.Iterator.{YieldsList-from_range}
use Rattle.std.proofs.lemmas.Iterator.Consumers.{YieldsList-at}
use Rattle.pages.proofs.Runs.{spaced_over}
use Rattle.kinds.proofs.NameWalk.{numbers_walked}
use Rattle.kinds.specs.Names.{names}
use Rattle.kinds.proofs.fragments.printing.put_numbers.Goals as goal

pub returns : goal.returns
returns c =
    let all = YieldsList-at c.filter.ensures.source (YieldsList-from_range 0 names names refl refl) in
    spaced_over _ _ c.put_list.ensures.prints
    (numbers_walked _ c.args.set.bits 0 names all c.filter.ensures.closure (λ x b q k. search rules))
