-- `A`: where a row is, every path meets the until; and a state without a row has a path of such states.
-- Whether a state has a row can be decided, so the path is picked and no excluded middle is wanted.
use Rattle.std.proofs.Common.{ℕ, zero, suc, ◌<◌, List, sym, subst, arith}
use Rattle.flow.specs.Facts.{ClosedGraph}
use Rattle.flow.specs.Graph.{Graph, successors}
use Rattle.kinds.specs.Consequences.{Consequences}
use Rattle.kinds.specs.Member.{◌∈◌}
use Rattle.kinds.specs.Model.{Model}
use Rattle.rows.specs.Forests.{union, none}
use Rattle.rows.specs.declared.forest.Forest.{Forest}
use Rattle.rows.specs.declared.row.Row.{Row}
use Rattle.logic.specs.Formulas.{Formula, all_until}
use Rattle.logic.specs.Satisfied.{Satisfies}
use Rattle.logic.specs.Valuations.{Valuation, Values}
use Rattle.logic.proofs.Covering.{Shown, shown?}
use Rattle.logic.proofs.Deciding.{Decides, Inside}
use Rattle.logic.proofs.Members.{some_in?}
use Rattle.logic.proofs.Right.{Least, each_next, shown}
use Rattle.logic.proofs.Shown.{Shows}
use Rattle.logic.proofs.Through.{through_all, through_each}
use Rattle.logic.proofs.Walking.{leads, meets_later, meets_now, rest_endless, walk, walk_endless}

module _ {B : Type 0} (m : Model B) (laws : Consequences m) (g : Graph) (closed : ClosedGraph g) (a b : Formula)
    (ps qs rows : List (Row B)) (da : Decides m g a ps) (db : Decides m g b qs) (ps_inside : Inside m g ps)
    (qs_inside : Inside m g qs)
    (until : Least m g (each_next g) ps qs rows) where
  -- where a row is, b holds, or a does and each successor has a row
  all_sound : (v : Valuation) → Values m v → (s : ℕ) (f : Forest) → Shows m rows s v f
      → Satisfies m g (all_until a b) s v
  all_sound v h = (until.least v h (λ k s f. Satisfies m g (all_until a b) s v) (λ k s f w. w) start again).1
    where
      start : (s : ℕ) (f : Forest) → Shows m qs s v f → Satisfies m g (all_until a b) s v
      start s f w path e =
          meets_now (λ t. Satisfies m g a t v) (λ t. Satisfies m g b t v) path
          (subst (λ (t : ℕ). Satisfies m g b t v) (sym e.begins) ((db s v (qs_inside s v f h w) h).1 (f, w)))

      again : (k s : ℕ) (f e : Forest) → Shows m ps s v f
          → each_next g (λ t x. Satisfies m g (all_until a b) t v) s e → Satisfies m g (all_until a b) s v
      again k s f _ w next path e =
          let i = subst (λ (u : ℕ). path 1 ∈ successors g u) e.begins (e.goes 0) in
          let rest = (through_each (λ t x. Satisfies m g (all_until a b) t v) next (path 1) i).1 in
          meets_later (λ t. Satisfies m g a t v) (λ t. Satisfies m g b t v) path
          (subst (λ (t : ℕ). Satisfies m g a t v) (sym e.begins) ((da s v (ps_inside s v f h w) h).1 (f, w)))
          (rest (λ j. path (suc j)) (rest_endless g s path e))

  module _ (v : Valuation) (h : Values m v) where
    -- a successor that no row covers
    abbrev WayOut : ℕ → Type 0
    WayOut t = (u : ℕ) × (u ∈ successors g t) × (Shown m rows u v → ⊥)

    -- what can be decided can be denied
    not? : {X : Type 0} → Dec X → Dec (X → ⊥)
    not? (yes x) = no (λ n. n x)
    not? (no n) = yes n

    -- whether there is one can be decided
    way_out? : (t : ℕ) → Dec (WayOut t)
    way_out? t = some_in? (λ u. not? (shown? m laws rows u v h)) (successors g t)

    -- where there is a way out it is taken, and any other successor elsewhere
    taken : (t : ℕ) → t < g.states → Dec (WayOut t) → (u : ℕ) × (u ∈ successors g t)
    taken t l (yes w) = (w.0, w.1)
    taken t l (no n) = leads closed t l

    -- the walk that stays without rows as long as it can
    pick : (t : ℕ) → t < g.states → (u : ℕ) × (u ∈ successors g t)
    pick t l = taken t l (way_out? t)

    -- what is not unshown is shown, since it can be decided
    is_shown : {u : ℕ} → Dec (Shown m rows u v) → ((Shown m rows u v → ⊥) → ⊥) → Shown m rows u v
    is_shown (yes w) n = w
    is_shown (no k) n = absurd (n k)

    -- from a state where a holds and that no row covers, the pick leads to another
    taken_out : (t : ℕ) (l : t < g.states) (d : Dec (WayOut t)) → Satisfies m g a t v → (Shown m rows t v → ⊥)
        → Shown m rows (taken t l d).0 v → ⊥
    unfolding taken
    taken_out t l (yes w) sat n c = w.2 c
    taken_out t l (no out) sat n c =
        let p = (da t v l h).0 sat in
        let each = through_all (shown m rows v) (successors g t)
        (λ u i. is_shown (shown? m laws rows u v h) (λ k. out (u, i, k))) none in
        n (union p.0 each.0, until.again t v p.0 each.0 l h p.1 each.1)

    -- so the walk meets no row as long as a holds
    uncovered : (s : ℕ) (l : s < g.states) → (Shown m rows s v → ⊥) → (k : ℕ)
        → ((i : ℕ) → i < k → Satisfies m g a (walk closed pick s l i).0 v)
        → Shown m rows (walk closed pick s l k).0 v → ⊥
    unfolding walk pick
    uncovered s l n zero before = n
    uncovered s l n (suc k) before =
        let here = walk closed pick s l k in
        taken_out here.0 here.1 (way_out? here.0) (before k (omega arith))
        (uncovered s l n k (λ i j. before i (omega arith)))

    -- a state without a row would have a path that never meets the until
    all_full : (s : ℕ) (l : s < g.states) → Satisfies m g (all_until a b) s v → Dec (Shown m rows s v)
        → Shown m rows s v
    all_full s l sat (yes w) = w
    all_full s l sat (no n) =
        let place = sat (λ i. (walk closed pick s l i).0) (walk_endless closed pick s l) in
        let t = walk closed pick s l place.0 in
        let r = (db t.0 v t.1 h).0 place.1 in
        absurd (uncovered s l n place.0 place.2 (r.0, until.start t.0 v r.0 r.1))

  -- so the rows of `A` show just what satisfies it
  pub decides_all_until : Decides m g (all_until a b) rows
  decides_all_until s v l h = (
    λ sat. all_full v h s l sat (shown? m laws rows s v h),
    λ w. all_sound v h s w.0 w.1,
  )
