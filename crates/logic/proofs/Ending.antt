-- Every check comes to exactly one outcome, and each until ends after few rounds.
use Rattle.std.proofs.Common.{◌≡◌, ◌+◌, ◌≤◌, List, length, Ok, Err, refl, subst, arith}
use Rattle.kinds.specs.Model.{Model}
use Rattle.rows.specs.declared.row.Row.{Row}
use Rattle.logic.specs.Outcomes.{Outcome}
use Rattle.logic.specs.Promises.{EveryCheckHasOneOutcome, RoundsAreFew}
use Rattle.logic.specs.Rounds.{Rounds, Settled, last, more, one_more, round, stops}
use Rattle.logic.proofs.Computing.{outcome, outcome_checks, outcome_only}
use Rattle.logic.proofs.Thens.{err_ok, ok_inj}

-- the outcome that is computed
pub every_check_has_one_outcome : {B : Type 0} (m : Model B) → EveryCheckHasOneOutcome m
every_check_has_one_outcome m g limit ls asked =
    (outcome m g limit ls asked, outcome_checks m g limit ls asked, outcome_only m g limit ls asked)

-- each round but the last makes the list longer
few_rounds : {B : Type 0} (turn : List (Row B) → Outcome (List (Row B))) {rows : List (Row B)}
    {out : Outcome (Settled B)} → Rounds turn rows out → (z : Settled B) → out ≡ Ok z
    → z.rounds + length rows ≤ length z.rows + 1
few_rounds turn (stops e) z q = absurd (err_ok q)
few_rounds turn (last {rows = rows} e) z q =
    subst (λ (y : Settled _). y.rounds + length rows ≤ length y.rows + 1) (ok_inj q) (omega arith)
few_rounds turn (more {rows = rows} {longer = longer} {out = out} e l rest) z q = step out (few_rounds turn rest) q
  where
    step : (o : Outcome (Settled _)) → ((y : Settled _) → o ≡ Ok y → y.rounds + length longer ≤ length y.rows + 1)
        → one_more o ≡ Ok z → z.rounds + length rows ≤ length z.rows + 1
    step (Err x) rec f = absurd (err_ok f)
    step (Ok y) rec f =
        let r = rec y refl in
        subst (λ (y : Settled _). y.rounds + length rows ≤ length y.rows + 1) (ok_inj f) (omega arith)

-- so each round but one has a row of its own
pub rounds_are_few : {B : Type 0} (m : Model B) → RoundsAreFew m
rounds_are_few m limit step ps qs z r = few_rounds (round m limit step ps) r z refl
