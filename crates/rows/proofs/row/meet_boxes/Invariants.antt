use Rattle.std.proofs.Common.{◌≡◌, length, take, drop}
use Rattle.flow.specs.Limits.{variables}
use Rattle.rows.specs.Rows.{meets}
use Rattle.rows.proofs.Boxes.{behind}
use Rattle.rows.proofs.row.meet_boxes.Given as goal

-- the boxes that are met, and behind them the meets of those that are left
abbrev pub invariant-loop-i : goal.invariant-loop-i
invariant-loop-i g l = record {
  as_many : length l.met ≡ variables;
  meeting :
      behind (take l.i l.met) (meets g.K.Kind.model (drop l.i l.met) (drop l.i l.theirs))
      ≡ meets g.K.Kind.model l.initial.met l.theirs;
}
