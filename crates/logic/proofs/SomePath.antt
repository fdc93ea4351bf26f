-- `U`: rows come from paths that meet the until, and every such path leads to a row.
use Rattle.std.proofs.Common.{ℕ, zero, suc, ◌<◌, List, sym, subst, arith}
use Rattle.flow.specs.Facts.{ClosedGraph}
use Rattle.flow.specs.Graph.{Graph, successors}
use Rattle.kinds.specs.Consequences.{Consequences}
use Rattle.kinds.specs.Member.{◌∈◌}
use Rattle.kinds.specs.Model.{Model}
use Rattle.rows.specs.Forests.{union}
use Rattle.rows.specs.declared.forest.Forest.{Forest}
use Rattle.rows.specs.declared.row.Row.{Row}
use Rattle.logic.specs.Formulas.{Formula, some_until}
use Rattle.logic.specs.Satisfied.{Satisfies}
use Rattle.logic.specs.Valuations.{Valuation, Values}
use Rattle.logic.proofs.Covering.{Shown}
use Rattle.logic.proofs.Deciding.{Decides, Inside}
use Rattle.logic.proofs.Right.{Least, one_next}
use Rattle.logic.proofs.Shown.{Shows}
use Rattle.logic.proofs.Walking.{after, after_endless, meets_later, meets_now, some_path, stays}

module _ {B : Type 0} (m : Model B) (laws : Consequences m) (g : Graph) (closed : ClosedGraph g) (a b : Formula)
    (ps qs rows : List (Row B)) (da : Decides m g a ps) (db : Decides m g b qs) (ps_inside : Inside m g ps)
    (qs_inside : Inside m g qs)
    (until : Least m g (one_next g) ps qs rows) where
  -- what is shown has a path: b holds here, or a does and a successor has one
  some_sound : (v : Valuation) → Values m v → (s : ℕ) (f : Forest) → Shows m rows s v f
      → Satisfies m g (some_until a b) s v
  some_sound v h = (until.least v h (λ k s f. Satisfies m g (some_until a b) s v) (λ k s f w. w) start again).1
    where
      start : (s : ℕ) (f : Forest) → Shows m qs s v f → Satisfies m g (some_until a b) s v
      start s f w =
          let l = qs_inside s v f h w in
          let p = some_path closed s l in
          let here_b = subst (λ (t : ℕ). Satisfies m g b t v) (sym p.1.begins) ((db s v l h).1 (f, w)) in
          (p.0, p.1, meets_now (λ t. Satisfies m g a t v) (λ t. Satisfies m g b t v) p.0 here_b)

      again : (k s : ℕ) (f e : Forest) → Shows m ps s v f
          → one_next g (λ t e. Satisfies m g (some_until a b) t v) s e → Satisfies m g (some_until a b) s v
      again k s f e w next =
          let p = next.2 in
          let here_a = (da s v (ps_inside s v f h w) h).1 (f, w) in (
            after s p.0,
            after_endless g s next.0 p.0 next.1 p.1,
            meets_later (λ t. Satisfies m g a t v) (λ t. Satisfies m g b t v) (after s p.0) here_a p.2,
          )

  -- from the place where b holds back to the first, each state of the path is shown
  some_full : (v : Valuation) → Values m v → (k : ℕ) (path : ℕ → ℕ)
      → ((i : ℕ) → path (suc i) ∈ successors g (path i)) → path 0 < g.states → Satisfies m g b (path k) v
      → ((i : ℕ) → i < k → Satisfies m g a (path i) v) → Shown m rows (path 0) v
  some_full v h zero path goes l w before =
      let r = (db (path 0) v l h).0 w in (r.0, until.start (path 0) v r.0 r.1)
  some_full v h (suc k) path goes l w before =
      let r = some_full v h k (λ i. path (suc i)) (λ i. goes (suc i)) (stays closed (path 0) (path 1) (goes 0)) w
      (λ i j. before (suc i) (omega arith)) in
      let p = (da (path 0) v l h).0 (before 0 (omega arith)) in
      (union p.0 r.0, until.again (path 0) v p.0 r.0 l h p.1 (path 1, goes 0, r.1))

  -- so the rows of `U` show just what satisfies it
  pub decides_some_until : Decides m g (some_until a b) rows
  decides_some_until s v l h = (
    λ w.
        let e = w.1.begins in
        let inside = subst (λ (t : ℕ). t < g.states) (sym e) l in
        subst (λ (t : ℕ). Shown m rows t v) e (some_full v h w.2.0 w.0 w.1.goes inside w.2.1 w.2.2),
    λ w. some_sound v h s w.0 w.1,
  )
