-- Outcomes: what was worked out, or what there was no room for.
use Rattle.logic.specs.declared.shortage.Shortage.{Shortage}
use Rattle.std.specs.Prelude.{Ok, Err, Result}

abbrev pub Outcome : Type 0 → Type 0
Outcome A = Result A Shortage

-- what comes next, unless the working out has stopped
abbrev pub then : {A B : Type 0} → Outcome A → (A → Outcome B) → Outcome B
then (Ok a) next = next a
then (Err e) next = Err e
