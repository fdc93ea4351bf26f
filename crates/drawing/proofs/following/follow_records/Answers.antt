use Rattle.std.proofs.Common.{◌≡◌, arith}
use Rattle.drawing.proofs.Progress.{progress_all, progress_checks, progress_closes, progress_goes, progress_refused}
use Rattle.drawing.proofs.following.follow_records.Goals as goal

pub loop-record-preserved-in-Ok-Goes : goal.loop-record-preserved-in-Ok-Goes
loop-record-preserved-in-Ok-Goes g c =
    progress_goes c.loop-record.invariant c.in-Some.ensures.steps c.follow.ensures.leaves
    (rw c.in-Ok-Goes.field-0-is at c.in-Ok-Goes.ensures.answers)

pub loop-record-preserved-in-Ok-Checks : goal.loop-record-preserved-in-Ok-Checks
loop-record-preserved-in-Ok-Checks g c =
    progress_checks c.loop-record.invariant c.in-Some.ensures.steps c.follow.ensures.leaves
    (rw c.in-Ok-Checks.field-0-is at c.in-Ok-Checks.ensures.answers)

pub returns-in-Ok-Closes : goal.returns-in-Ok-Closes
returns-in-Ok-Closes g c =
    progress_closes c.loop-record.invariant c.in-Some.ensures.steps c.follow.ensures.leaves
    (rw c.in-Ok-Closes.field-0-is at c.in-Ok-Closes.ensures.answers)

pub loop-record-preserved : goal.loop-record-preserved
loop-record-preserved g c =
    let step = c.in-Some.ensures.steps in
    let at : c.number.result ≡ c.next.new.self.count = omega
    (arith, c.number.ensures, step.numbered, step.counted) in
    progress_refused c.loop-record.invariant step c.follow.ensures.leaves c.in-Err.fault c.in-Err.ensures.answers
    (rw at at c.tell.ensures)

pub returns : goal.returns
returns g c = progress_all c.loop-record.invariant c.in_default.ensures.steps
