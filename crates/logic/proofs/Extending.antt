-- Working lines: the table of witnesses only grows, at its end.
use Rattle.std.proofs.Common.{◌≡◌, ℕ, Bool, List, Ok, sym, subst}
use Rattle.flow.specs.Graph.{Graph}
use Rattle.flow.specs.Line.{Line, predicate, and, or, not, exists, all_next, some_next, all_until, some_until}
use Rattle.kinds.specs.Consequences.{Consequences}
use Rattle.kinds.specs.Model.{Model}
use Rattle.rows.specs.declared.row.Row.{Row}
use Rattle.logic.specs.Outcomes.{Outcome, then}
use Rattle.logic.specs.Promises.{NameableLabels}
use Rattle.logic.specs.Rounds.{Settled}
use Rattle.logic.specs.Witnessing.{of_exists}
use Rattle.logic.specs.Working.{
  Work,
  Works,
  WorksAll,
  done,
  list,
  passed,
  plain,
  stopped,
  with_rounds,
  with_rows,
  with_witnesses,
  worked,
}
use Rattle.logic.proofs.Forming.{Extends, extends_refl, extends_trans}
use Rattle.logic.proofs.Quantifying.{exists_extends}
use Rattle.logic.proofs.Thens.{err_ok, ok_inj, then_made}

module _ {B : Type 0} (m : Model B) (laws : Consequences m) (g : Graph) (limit : ℕ)
    (nameable : NameableLabels m g) where
  -- a line that forms no witnesses leaves the table as it is
  extends_plain : (w next : Work B) (o : Outcome (List (Row B))) → Ok next ≡ plain w o
      → Extends w.witnesses next.witnesses
  extends_plain w next o e =
      subst (λ (z : Work B). Extends w.witnesses z.witnesses) (sym (then_made o (with_rows w) e).2)
      (extends_refl w.witnesses)

  -- and so does an until
  extends_settles : (w next : Work B) (o : Outcome (Settled B)) → Ok next ≡ then o (λ z. Ok (with_rounds w z))
      → Extends w.witnesses next.witnesses
  extends_settles w next o e =
      subst (λ (z : Work B). Extends w.witnesses z.witnesses) (sym (then_made o (with_rounds w) e).2)
      (extends_refl w.witnesses)

  -- working a line, the table only grows
  pub works_extends : (w next : Work B) (l : Line) → Works m g limit w l (Ok next)
      → Extends w.witnesses next.witnesses
  works_extends w next (predicate p xs) e = extends_plain w next _ e
  works_extends w next (and a b) e = extends_plain w next _ e
  works_extends w next (or a b) e = extends_plain w next _ e
  works_extends w next (not a) e = extends_plain w next _ e
  works_extends w next (exists x a) e =
      let q = then_made (of_exists m limit x w.witnesses (list w a)) (with_witnesses w) e in
      subst (λ (z : Work B). Extends w.witnesses z.witnesses) (sym q.2)
      (exists_extends m laws limit x w.witnesses (list w a) q.1)
  works_extends w next (all_next a) e = extends_plain w next _ e
  works_extends w next (some_next a) e = extends_plain w next _ e
  works_extends w next (all_until a b) e = extends_settles w next e.0 e.2
  works_extends w next (some_until a b) e = extends_settles w next e.0 e.2

  module _ (wanted : ℕ → Bool) where
    -- working on, the table only grows
    pub all_extends : {w : Work B} {ls : List Line} {out : Outcome (Work B)} → WorksAll m g limit wanted w ls out
        → (end : Work B) → out ≡ Ok end → Extends w.witnesses end.witnesses
    all_extends (done {w = w}) end e =
        subst (λ (z : Work B). Extends w.witnesses z.witnesses) (ok_inj e) (extends_refl w.witnesses)
    all_extends (passed n rest) end e = all_extends rest end e
    all_extends (worked {w = w} {next = next} {l = l} y works rest) end e =
        extends_trans w.witnesses next.witnesses end.witnesses
        (works_extends w next l works) (all_extends rest end e)
    all_extends (stopped y works) end e = absurd (err_ok e)
