use Rattle.std.proofs.Common.{length}
use Rattle.drawing.proofs.Progress.{Progress}
use Rattle.drawing.proofs.following.follow_records.Given as goal

abbrev pub invariant-loop-record : goal.invariant-loop-record
invariant-loop-record g l =
    let standing = g.P.Phase.standing in
    let from = l.initial.splitter in
    Progress (standing l.initial.phase) from.count from.left.now l.initial.page
    (standing l.phase) l.splitter.count l.splitter.left.now l.page l.tally

abbrev pub decreases-loop-record : goal.decreases-loop-record
decreases-loop-record g l = length l.splitter.left.now
