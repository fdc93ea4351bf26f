use Rattle.std.proofs.Common.{ap, rules}
use Rattle.rows.specs.Forests.{union}
use Rattle.rows.proofs.Words.{words-either}
use Rattle.rows.proofs.forest.Forest.union.Goals as goal

pub returns : goal.returns
unfolding union
returns c =
    ap (λ ws. record { words = ws })
    (words-either c.args.self.now.words c.args.other.now.words c.from_fn.result (search rules) (search rules)
    (search rules))
