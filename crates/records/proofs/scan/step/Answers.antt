use Rattle.std.proofs.Common.{arith}
use Rattle.std.proofs.lemmas.Grind.{common_steps}
use Rattle.records.proofs.Scans.{steps_again, steps_bare, steps_lf, steps_text}
use Rattle.records.proofs.scan.step.Goals as goal

pub returns-in-Text-eq10 : goal.returns-in-Text-eq10
returns-in-Text-eq10 c = rw c.in-Text-eq10.is-0 (steps_text _ _ _ (λ cr. omega arith) (grind (arith, common_steps)))

pub returns-in-Text-eq34 : goal.returns-in-Text-eq34
returns-in-Text-eq34 c = rw c.in-Text-eq34.is-0 (steps_text _ _ _ (λ cr. omega arith) (grind (arith, common_steps)))

pub returns-in-Text-default : goal.returns-in-Text-default
returns-in-Text-default c =
    rw c.in-Text-default.is-0 (steps_text _ _ _ (λ cr. omega arith) (grind (arith, common_steps)))

pub returns-in-AfterCr-eq10 : goal.returns-in-AfterCr-eq10
returns-in-AfterCr-eq10 c = rw c.in-AfterCr-eq10.is-0 (steps_lf _ _ c.in-AfterCr-eq10.is-1)

pub returns-in-AfterCr-eq13 : goal.returns-in-AfterCr-eq13
returns-in-AfterCr-eq13 c = rw c.in-AfterCr-eq13.is-0 (steps_again _ _ c.in-AfterCr-eq13.is-1)

pub returns-in-AfterCr-default : goal.returns-in-AfterCr-default
returns-in-AfterCr-default c =
    rw c.in-AfterCr-default.is-0 (steps_bare _ _ (λ cr. omega arith) (λ lf. omega arith))
