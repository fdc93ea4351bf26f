use Rattle.std.proofs.Common.{◌≡◌, []}
use Rattle.flow.specs.Held.{label_of}
use Rattle.lists.proofs.Loops.{loop_all, loop_more, loop_skip, loop_stop}
use Rattle.logic.specs.Operators.{of_label}
use Rattle.engine.proofs.LabelRows.{joined_map, of_label_elsewhere, of_label_here, of_label_other}
use Rattle.engine.proofs.operators.predicate.state_labels.Goals as goal
use Rattle.engine.proofs.operators.predicate.state_labels.Goals.{
  else-label-state,
  else-label-state-via-else-label-state,
  else-label-state-via-then-label-state+else-label-atom,
  then-label-state+then-label-atom+in-Some+in_ok-add,
  then-label-state+then-label-atom+in_default,
}

pub returns-in_err-add : goal.returns-in_err-add
returns-in_err-add g c =
    let m = g.K.Kind.model in
    let graph = c.args.case.now.graph in
    let p = c.args.atom.now.predicate in
    let xs = c.args.atom.now.variables.now in
    let row = of_label_here m graph p xs c.args.state (label_of c.label-item.result) c.if-label-state.true
    c.if-label-atom.true c.blank-blank.ensures c.as_slice.ensures.all c.in-Some.ensures in
    rw (← joined_map (of_label m graph p xs c.args.state) label_of _ c.labels-label-items.ensures.entered)
    (loop_stop c.loop-label.invariant c.loop-label-test.true c.label-item.is row c.args.dest.known
    c.from_residual.result c.from_residual.ensures.1 c.in_err-add.ensures)

pub loop-label-preserved : goal.loop-label-preserved
loop-label-preserved g c =
    let m = g.K.Kind.model in
    let graph = c.args.case.now.graph in
    let p = c.args.atom.now.predicate in
    let xs = c.args.atom.now.variables.now in
    let s = c.args.state in
    let label = label_of c.label-item.result in
    let loop = c.loop-label.invariant in
    let below = c.loop-label-test.true in
    elim c.if-label-state.branch [
      | then-label-state+then-label-atom+in-Some+in_ok-add w ↦
          let row = of_label_here m graph p xs s label w.if-label-state.true w.if-label-atom.true
          c.blank-blank.ensures w.as_slice.ensures.all w.in-Some.ensures in
          rw w.lists-is (loop_more loop below c.label-item.is row c.args.dest.known w.in_ok-add.ensures)
      | then-label-state+then-label-atom+in_default w ↦
          let none = of_label_here m graph p xs s label w.if-label-state.true w.if-label-atom.true
          c.blank-blank.ensures w.as_slice.ensures.all w.in_default.ensures in
          rw w.lists-is (loop_skip loop below c.label-item.is none)
      | else-label-state w ↦
          let none : of_label m graph p xs s label ≡ []
          = elim w.else-label-state.branch [
            | else-label-state-via-then-label-state+else-label-atom v ↦
                of_label_other m graph p xs s label v.if-label-state.true v.if-label-atom.false
            | else-label-state-via-else-label-state v ↦
                of_label_elsewhere m graph p xs s label v.if-label-state.false
          ] in
          rw w.lists-is (loop_skip loop below c.label-item.is none)
    ]

pub returns : goal.returns
returns g c =
    let m = g.K.Kind.model in
    let gives = of_label m c.args.case.now.graph c.args.atom.now.predicate c.args.atom.now.variables.now
    c.args.state in
    rw (← joined_map gives label_of _ c.labels-label-items.ensures.entered)
    (loop_all c.loop-label.invariant c.loop-label-test.false)
