-- One line worked: where the lists of its operands are right, so is its own.
use Rattle.std.proofs.Common.{◌≡◌, ℕ, true, ltb, List, length, Ok, sym, refl, subst}
use Rattle.flow.specs.Graph.{Graph}
use Rattle.flow.specs.Limits.{predicates, variables}
use Rattle.flow.specs.Line.{Line, predicate, and, or, not, exists, all_next, some_next, all_until, some_until}
use Rattle.flow.specs.Sheet.{right}
use Rattle.std.specs.List.{list_all}
use Rattle.kinds.specs.Consequences.{Consequences}
use Rattle.kinds.specs.Member.{◌∈◌, here, there}
use Rattle.kinds.specs.Model.{Model}
use Rattle.rows.specs.declared.row.Row.{Row}
use Rattle.rows.specs.declared.witness.Witness.{Witness}
use Rattle.logic.specs.Formulas.{Formula, read, earlier}
use Rattle.logic.specs.Operators.{of_all_next, of_some_next}
use Rattle.logic.specs.Outcomes.{Outcome, then}
use Rattle.logic.specs.Promises.{NameableLabels}
use Rattle.logic.specs.Reached.{operands}
use Rattle.logic.specs.Rounds.{Settled, Rounds, round}
use Rattle.logic.specs.Witnessing.{of_exists}
use Rattle.logic.specs.Working.{Work, Works, list, plain, with_rounds, with_rows, with_witnesses}
use Rattle.logic.proofs.Coverage.{inside}
use Rattle.logic.proofs.Exact.{
  exact_all_next,
  exact_and,
  exact_not,
  exact_or,
  exact_predicate,
  exact_some_next,
  freed_exists,
  least_until,
}
use Rattle.logic.proofs.Forming.{Extends}
use Rattle.logic.proofs.Grounded.{Grounded}
use Rattle.logic.proofs.Growing.{exists_grounded, exists_sound}
use Rattle.logic.proofs.Members.{from_every}
use Rattle.logic.proofs.Pacing.{pace_each, pace_one}
use Rattle.logic.proofs.Ready.{Ready, Worked}
use Rattle.logic.proofs.Right.{each_next, one_next}
use Rattle.logic.proofs.SoundLists.{
  sound_all_next,
  sound_and,
  sound_not,
  sound_or,
  sound_predicate,
  sound_rounds,
  sound_some_next,
}
use Rattle.logic.proofs.Thens.{then_made}
use Rattle.std.proofs.lemmas.Bool.{and_parts, ltb-true}

module _ {B : Type 0} (m : Model B) (laws : Consequences m) (g : Graph) (limit : ℕ)
    (nameable : NameableLabels m g)
    (w next : Work B) (fs : List Formula) (ws : List (Witness B)) (grounded : Grounded m w.witnesses) where
  -- the rows are ready for the line, with the witnesses that there were before it
  abbrev Listed : Line → List (Row B) → Type 1
  Listed l rows = Ready m laws g limit nameable ws (length w.witnesses) (read fs l) rows

  -- a line that forms no witnesses
  worked_plain : (l : Line) (o : Outcome (List (Row B))) → Ok next ≡ plain w o
      → ((rows : List (Row B)) → o ≡ Ok rows → Listed l rows) → Worked m laws g limit nameable w next fs l ws
  worked_plain l o e ready =
      let a = then_made o (with_rows w) e in
      subst (λ (z : Work B). Worked m laws g limit nameable w z fs l ws) (sym a.2)
      (record { rows = a.0; lists = refl; ready = ready a.0 a.1; grounded = grounded })

  -- an until
  worked_settles : (l : Line) (o : Outcome (Settled B)) → Ok next ≡ then o (λ z. Ok (with_rounds w z))
      → ((z : Settled B) → o ≡ Ok z → Listed l z.rows) → Worked m laws g limit nameable w next fs l ws
  worked_settles l o e ready =
      let a = then_made o (with_rounds w) e in
      subst (λ (z : Work B). Worked m laws g limit nameable w z fs l ws) (sym a.2)
      (record { rows = a.0.rows; lists = refl; ready = ready a.0 a.1; grounded = grounded })

  -- every line, by the lists of its operands
  pub worked : (l : Line) (i : ℕ) → right i l ≡ true → Works m g limit w l (Ok next) → Extends next.witnesses ws
      → ((a : ℕ) → a ∈ operands l → Ready m laws g limit nameable ws (length w.witnesses) (earlier fs a) (list w a))
      → Worked m laws g limit nameable w next fs l ws
  worked (predicate p xs) i r e later ops =
      let small = (and_parts (ltb p predicates) (list_all (λ x. ltb x variables) xs) r).1 in
      worked_plain (predicate p xs) _ e (λ rows q. record {
        is_right = exact_predicate m laws g limit p xs q nameable
            (λ x j. ltb-true x variables (from_every (λ y. ltb y variables) xs small j));
        is_sound = sound_predicate m laws limit g p xs q;
      })
  worked (and a b) i r e later ops =
      let x = ops a (here refl) in
      let y = ops b (there (here refl)) in
      worked_plain (and a b) _ e (λ rows q. record {
        is_right = (
          list w a,
          list w b,
          x.is_right,
          y.is_right,
          exact_and m laws g limit (list w a) (list w b) q
              (inside m laws g ws (earlier fs a) (list w a) x.is_right),
        );
        is_sound = sound_and m laws limit g (list w a) (list w b) q x.is_sound y.is_sound;
      })
  worked (or a b) i r e later ops =
      let x = ops a (here refl) in
      let y = ops b (there (here refl)) in
      worked_plain (or a b) _ e (λ rows q. record {
        is_right = (
          list w a,
          list w b,
          x.is_right,
          y.is_right,
          exact_or m laws g limit (list w a) (list w b) q
              (inside m laws g ws (earlier fs a) (list w a) x.is_right)
              (inside m laws g ws (earlier fs b) (list w b) y.is_right),
        );
        is_sound = sound_or m laws limit g (list w a) (list w b) q x.is_sound y.is_sound;
      })
  worked (not a) i r e later ops =
      let x = ops a (here refl) in
      worked_plain (not a) _ e (λ rows q. record {
        is_right = (
          list w a,
          x.is_right,
          exact_not m laws g limit (list w a) q (length w.witnesses) x.is_sound,
        );
        is_sound = sound_not m laws limit g (list w a) q;
      })
  worked (exists x a) i r e later ops =
      let y = ops a (here refl) in
      let q = then_made (of_exists m limit x w.witnesses (list w a)) (with_witnesses w) e in
      let later' = subst (λ (z : Work B). Extends z.witnesses ws) q.2 later in
      subst (λ (z : Work B). Worked m laws g limit nameable w z fs (exists x a) ws) (sym q.2)
      (record {
        rows = q.0.rows;
        lists = refl;
        ready = record {
          is_right = (
            list w a,
            y.is_right,
            freed_exists m laws g limit x w.witnesses (list w a) q.1 ws later',
          );
          is_sound = exists_sound m laws limit x w.witnesses (list w a) q.1 grounded y.is_sound;
        };
        grounded = exists_grounded m laws limit x w.witnesses (list w a) q.1 grounded y.is_sound;
      })
  worked (all_next a) i r e later ops =
      let x = ops a (here refl) in
      worked_plain (all_next a) _ e (λ rows q. record {
        is_right = (list w a, x.is_right, exact_all_next m laws g limit (list w a) q);
        is_sound = sound_all_next m laws limit g (list w a) q x.is_sound;
      })
  worked (some_next a) i r e later ops =
      let x = ops a (here refl) in
      worked_plain (some_next a) _ e (λ rows q. record {
        is_right = (list w a, x.is_right, exact_some_next m laws g limit (list w a) q);
        is_sound = sound_some_next m laws limit g (list w a) q x.is_sound;
      })
  worked (all_until a b) i r e later ops =
      let x = ops a (here refl) in
      let y = ops b (there (here refl)) in
      worked_settles (all_until a b) e.0 e.2 (λ z q.
      let rounds = subst (λ (o : Outcome (Settled B)).
      Rounds (round m limit (of_all_next m g limit) (list w a)) (list w b) o) q e.1 in
      record {
        is_right = (
          list w a,
          list w b,
          x.is_right,
          y.is_right,
          least_until m laws g limit (each_next g) (of_all_next m g limit) (pace_each m ws g).step_map
              (λ rows next f. exact_all_next m laws g limit rows f) (list w a) (list w b) rounds,
        );
        is_sound = sound_rounds m laws limit (of_all_next m g limit)
            (λ rows next f s. sound_all_next m laws limit g rows f s) (list w a) rounds x.is_sound y.is_sound;
      })
  worked (some_until a b) i r e later ops =
      let x = ops a (here refl) in
      let y = ops b (there (here refl)) in
      worked_settles (some_until a b) e.0 e.2 (λ z q.
      let rounds = subst (λ (o : Outcome (Settled B)).
      Rounds (round m limit (of_some_next m g limit) (list w a)) (list w b) o) q e.1 in
      record {
        is_right = (
          list w a,
          list w b,
          x.is_right,
          y.is_right,
          least_until m laws g limit (one_next g) (of_some_next m g limit) (pace_one m ws g).step_map
              (λ rows next f. exact_some_next m laws g limit rows f) (list w a) (list w b) rounds,
        );
        is_sound = sound_rounds m laws limit (of_some_next m g limit)
            (λ rows next f s. sound_some_next m laws limit g rows f s) (list w a) rounds x.is_sound y.is_sound;
      })
