use Rattle.records.specs.Scanned.{Going, Scanned}
use Rattle.records.proofs.scan.first_cut.Given as goal

-- what the state tells of the bytes read, and none of them ended the record
abbrev pub invariant-loop-at : goal.invariant-loop-at
invariant-loop-at l = record { going : Going l.scan; scanned : Scanned l.left l.at l.scan }
