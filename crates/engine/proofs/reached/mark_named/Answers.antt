use Rattle.std.proofs.Common.{ap, inl, inr}
use Rattle.flow.specs.Held.{line_of}
use Rattle.logic.specs.Reached.{operands}
use Rattle.engine.proofs.Marking.{mark_operands}
use Rattle.engine.proofs.reached.mark_named.Goals as goal

pub returns-in-And : goal.returns-in-And
returns-in-And c =
    let ms = c.args.marks.now in
    let os = operands (line_of c.args.line.now) in
    elim c.in-And.is [
      | inl e ↦ mark_operands ms os _ _ c.told-marks (ap (λ l. operands (line_of l)) e) c.requires
      | inr (inl e) ↦ mark_operands ms os _ _ c.told-marks (ap (λ l. operands (line_of l)) e) c.requires
      | inr (inr (inl e)) ↦ mark_operands ms os _ _ c.told-marks (ap (λ l. operands (line_of l)) e) c.requires
      | inr (inr (inr e)) ↦ mark_operands ms os _ _ c.told-marks (ap (λ l. operands (line_of l)) e) c.requires
    ]
