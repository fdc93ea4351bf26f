use Rattle.std.proofs.Common.{◌≡◌, None, sym, ◌∙◌, arith, rules}
use Rattle.rows.specs.Denials.{besides}
use Rattle.rows.proofs.Denied.{besides_piece, besides_next, besides-past}
use Rattle.rows.proofs.denial.Denial.next_beside.Goals as goal
use Rattle.rows.proofs.denial.Denial.next_beside.Goals.{else-self-PIECES-via-then-self-PIECES+in-None-1, else-self-PIECES-via-else-self-PIECES}
use Rattle.std.specs.List.{slice_get}

pub returns-in-loop-self-clause-next : goal.returns-in-loop-self-clause-next
returns-in-loop-self-clause-next g c =
    let d = c.loop-self.self in
    sym c.loop-self.invariant.beside
    ∙ besides_piece g.K.Kind.model d.of d.variable d.piece c.in-Some.row c.loop-self-test.true
    (sym c.in-Some.ensures)

pub loop-self-preserved : goal.loop-self-preserved
loop-self-preserved g c =
    let m = g.K.Kind.model in
    let d = c.loop-self.self in
    let row = d.of in
    let none : slice_get (besides m row d.variable) d.piece ≡ None =
    elim c.else-self-PIECES.branch [
      | else-self-PIECES-via-then-self-PIECES+in-None-1 w ↦ search rules
      | else-self-PIECES-via-else-self-PIECES w ↦
          besides-past m row d.variable d.piece g.met.K.Kind.lawful (omega (arith, g.met.K.Kind.most_pieces))
    ] in
    record {
      beside =
          sym (besides_next m row d.variable d.piece c.loop-self-test.true none) ∙ c.loop-self.invariant.beside;
      elsewhere = c.loop-self.invariant.elsewhere;
    }
