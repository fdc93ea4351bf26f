use Rattle.std.proofs.Common.{◌≡◌, ◌++◌, ap, ◌∙◌, not-suc-le-zero, arith}
use Rattle.flow.specs.Closed.{closed, loops}
use Rattle.flow.specs.Drafts.{sketch}
use Rattle.flow.proofs.Facts.{closed_graph}
use Rattle.flow.proofs.Loops.{sound_once_closed}
use Rattle.flow.proofs.draft.Draft.close.Goals as goal

-- after the last state the edges are those of the closed graph
all_closed : (c : goal.After-loop-state) → c.loop-state.edges ≡ (closed (sketch c.self.inside)).edges
all_closed c =
    let es = c.self.inside.edges in
    let all : c.loop-state.state ≡ c.self.inside.states = omega arith in
    c.loop-state.invariant ∙ ap (λ n. es ++ loops es n) all

pub invariant_of-result : goal.invariant_of-result
invariant_of-result c = rw (all_closed c, c.self.invariant.no_lines) record {
  sound = sound_once_closed (sketch c.self.inside) c.self.invariant.sound;
  ordered = λ i d h. absurd (not-suc-le-zero h);
}

pub returns-clause-facts : goal.returns-clause-facts
returns-clause-facts c =
    let g = sketch c.self.inside in
    rw (all_closed c) (closed_graph (closed g) (sound_once_closed g c.self.invariant.sound))
