use Rattle.std.proofs.Common.{◌≡◌, suc, true, false, ltb, map, set, length, take, replicate, ap, sym, ◌∙◌, length-take-le, arith, rules}
use Rattle.flow.specs.Held.{line_of}
use Rattle.flow.specs.Limits.{most_lines}
use Rattle.std.specs.List.{list_all}
use Rattle.logic.specs.Reached.{marked_below, marking, operands, reached}
use Rattle.engine.proofs.Marking.{mark_asked, marks_more, marks_pass, operands_small, read_last, read_line}
use Rattle.engine.proofs.reached.reached.Goals as goal
use Rattle.engine.specs.Marks.{marked}
use Rattle.std.specs.Slice.Iter.{iter_rest}

pub loop-i-init : goal.loop-i-init
unfolding reached
loop-i-init c =
    let lines = c.args.lines.now in
    let known = c.requires.known in
    let few = c.requires.few in
    let asked = c.args.asked in
    let left = iter_rest c.into_iter-i-iterator.result.iter.iter in
    let front : left ≡ take (suc asked) lines = search rules in
    let size : length left ≡ suc asked = ap length front ∙ length-take-le (suc asked) lines (omega arith) in
    record {
      lines_left = front ∙ ap (λ n. take n lines) (sym size);
      from_none = search rules;
      reaching =
          ap (λ n. marked_below (map line_of lines) n (marked (set (replicate most_lines false) asked true))) size
          ∙ ap (marked_below (map line_of lines) (suc asked)) (mark_asked asked (omega arith));
    }

pub mark_named-requires : goal.mark_named-requires
mark_named-requires c =
    let ls = c.args.lines.now in
    let few = c.requires.few in
    let turn = read_last _ _ ls c.in-Some.line.now c.loop-i.invariant.lines_left c.in-Some.ensures.steps.1.0 in
    ap (λ l. list_all (λ x. ltb x most_lines) (operands l)) (read_line ls _ c.in-Some.line.now turn.2 turn.1)
    ∙ operands_small (map line_of ls) c.requires.ordered _ (omega (arith, turn.2))

pub loop-i-preserved-then-marks-i : goal.loop-i-preserved-then-marks-i
loop-i-preserved-then-marks-i c =
    let lines = c.args.lines.now in
    let ls = map line_of lines in
    let loop = c.loop-i.invariant in
    let step = c.in-Some.ensures.steps in
    let left = iter_rest c.next.new.self.iter.iter in
    let turn = read_last _ left lines c.in-Some.line.now loop.lines_left step.1.0 in
    let place : c.in-Some.i ≡ length left = omega (arith, step.1.1, loop.from_none) in
    let set = ap (λ i. marked c.loop-i.marks i) (sym place) ∙ c.if-marks-i.true in
    let named = c.mark_named.ensures ∙ ap (λ l. marking true (operands l) (marked c.loop-i.marks))
    (read_line lines _ c.in-Some.line.now turn.2 turn.1) in
    record {
      lines_left = turn.0;
      from_none = step.0 ∙ loop.from_none;
      reaching =
          marks_more ls c.requires.ordered c.loop-i.marks c.mark_named.new.marks _ set named
          ∙ ap (λ n. marked_below ls n (marked c.loop-i.marks)) (sym turn.3) ∙ loop.reaching;
    }

pub loop-i-preserved : goal.loop-i-preserved
loop-i-preserved c =
    let lines = c.args.lines.now in
    let ls = map line_of lines in
    let loop = c.loop-i.invariant in
    let step = c.in-Some.ensures.steps in
    let left = iter_rest c.next.new.self.iter.iter in
    let turn = read_last _ left lines c.in-Some.line.now loop.lines_left step.1.0 in
    let place : c.in-Some.i ≡ length left = omega (arith, step.1.1, loop.from_none) in
    let not_set = ap (λ i. marked c.loop-i.marks i) (sym place) ∙ c.if-marks-i.false in
    record {
      lines_left = turn.0;
      from_none = step.0 ∙ loop.from_none;
      reaching =
          marks_pass ls c.requires.ordered c.loop-i.marks _ not_set
          ∙ ap (λ n. marked_below ls n (marked c.loop-i.marks)) (sym turn.3) ∙ loop.reaching;
    }

pub returns : goal.returns
returns c =
    let ls = map line_of c.args.lines.now in
    ap (λ n. marked_below ls n (marked c.loop-i.marks)) (sym c.in-None.ensures.steps.1.0) ∙ c.loop-i.invariant.reaching
