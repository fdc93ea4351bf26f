-- Coverage: rows that are right for a formula show a state and a valuation exactly where these satisfy it.
use Rattle.std.proofs.Common.{◌<◌, List, refl, inl, inr}
use Rattle.flow.specs.Facts.{ClosedGraph}
use Rattle.flow.specs.Graph.{Graph, successors}
use Rattle.kinds.specs.Consequences.{Consequences}
use Rattle.kinds.specs.Model.{Model}
use Rattle.rows.specs.Forests.{none, single, union}
use Rattle.rows.specs.declared.row.Row.{Row}
use Rattle.rows.specs.declared.witness.Witness.{Witness}
use Rattle.logic.specs.Faithful.{witness}
use Rattle.logic.specs.Formulas.{Formula, predicate, and, or, not, exists, all_next, some_next, all_until, some_until}
use Rattle.logic.specs.Valuations.{put}
use Rattle.logic.proofs.AllPaths.{decides_all_until}
use Rattle.logic.proofs.Boxes.{values_put}
use Rattle.logic.proofs.Covering.{covered, shown_of}
use Rattle.logic.proofs.Deciding.{Decides, Inside}
use Rattle.logic.proofs.Right.{Right, shown}
use Rattle.logic.proofs.SomePath.{decides_some_until}
use Rattle.logic.proofs.Through.{through_all, through_each}
use Rattle.logic.proofs.Walking.{stays}

module _ {B : Type 0} (m : Model B) (laws : Consequences m) (g : Graph) (ws : List (Witness B)) where
  -- rows that are right show states of the graph only
  pub inside : (φ : Formula) (rows : List (Row B)) → Right m g ws φ rows → Inside m g rows
  inside (predicate p xs) rows r s v f h w = (r.from_rows s v f h w).0
  inside (and a b) rows r s v f h w = (r.4.from_rows s v f h w).0
  inside (or a b) rows r s v f h w = (r.4.from_rows s v f h w).0
  inside (not a) rows r s v f h w = (r.2.from_rows s v f h w).0
  inside (exists x a) rows r s v f h w =
      let k = r.2.from_freed s v f w in
      let n = laws.filled (witness m ws k.0).found in
      let value = laws.within (witness m ws k.0).found n.0 n.1 in
      inside a r.0 r.1 s (put v x n.0) _ (values_put m v x n.0 h value) (k.3 n.0 n.1)
  inside (all_next a) rows r s v f h w = (r.2.from_rows s v f h w).0
  inside (some_next a) rows r s v f h w = (r.2.from_rows s v f h w).0
  inside (all_until a b) rows r s v f h w =
      (r.4.least v h (λ k t e. t < g.states) (λ k t e l. l) (λ t e u. inside b r.1 r.3 t v e h u)
      (λ k t e i u next. inside a r.0 r.2 t v e h u)).1 s f w
  inside (some_until a b) rows r s v f h w =
      (r.4.least v h (λ k t e. t < g.states) (λ k t e l. l) (λ t e u. inside b r.1 r.3 t v e h u)
      (λ k t e i u next. inside a r.0 r.2 t v e h u)).1 s f w

  module _ (closed : ClosedGraph g) where
    -- operator by operator
    pub decides : (φ : Formula) (rows : List (Row B)) → Right m g ws φ rows → Decides m g φ rows
    decides (predicate p xs) rows r s v l h =
        (λ sat. (none, r.in_rows s v none l h (sat, refl)), λ w. (r.from_rows s v w.0 h w.1).1.0)
    decides (and a b) rows r s v l h =
        let da = decides a r.0 r.2 s v l h in
        let db = decides b r.1 r.3 s v l h in (
          λ sat.
              let x = da.0 sat.0 in
              let y = db.0 sat.1 in
              (union x.0 y.0, r.4.in_rows s v _ l h (x.0, y.0, x.1, y.1, refl)),
          λ w. let k = (r.4.from_rows s v w.0 h w.1).1 in (da.1 (k.0, k.2), db.1 (k.1, k.3)),
        )
    decides (or a b) rows r s v l h =
        let da = decides a r.0 r.2 s v l h in
        let db = decides b r.1 r.3 s v l h in (
          λ sat. elim sat [
            | inl x ↦ let k = da.0 x in (k.0, r.4.in_rows s v k.0 l h (inl k.1))
            | inr y ↦ let k = db.0 y in (k.0, r.4.in_rows s v k.0 l h (inr k.1))
          ],
          λ w. elim (r.4.from_rows s v w.0 h w.1).1 [
            | inl x ↦ inl (da.1 (w.0, x))
            | inr y ↦ inr (db.1 (w.0, y))
          ],
        )
    decides (not a) rows r s v l h =
        let da = decides a r.0 r.1 s v l h in (
          λ sat. (none, r.2.in_rows s v none l h ((λ c. sat (da.1 (shown_of m c))), refl)),
          λ w sat. (r.2.from_rows s v w.0 h w.1).1.0 (covered m (da.0 sat)),
        )
    decides (exists x a) rows r s v l h = (
      λ sat.
          let n = sat.0 in
          let k = (decides a r.0 r.1 s (put v x n) l (values_put m v x n h sat.1)).0 sat.2 in
          let i = r.2.in_freed n s v k.0 h sat.1 k.1 in
          (single i.0, i.4),
      λ w.
          let k = r.2.from_freed s v w.0 w.1 in
          let n = laws.filled (witness m ws k.0).found in
          let value = laws.within (witness m ws k.0).found n.0 n.1 in
          let da = decides a r.0 r.1 s (put v x n.0) l (values_put m v x n.0 h value) in
          (n.0, value, da.1 (_, k.3 n.0 n.1)),
    )
    decides (all_next a) rows r s v l h =
        let da = decides a r.0 r.1 in (
          λ sat.
              let each = through_all (shown m r.0 v) (successors g s)
              (λ t i. (da t v (stays closed s t i) h).0 (sat t i)) none in
              (each.0, r.2.in_rows s v each.0 l h each.1),
          λ w t i.
              let each = (r.2.from_rows s v w.0 h w.1).1 in
              (da t v (stays closed s t i) h).1 (through_each (shown m r.0 v) each t i),
        )
    decides (some_next a) rows r s v l h =
        let da = decides a r.0 r.1 in (
          λ sat.
              let k = (da sat.0 v (stays closed s sat.0 sat.1) h).0 sat.2 in
              (k.0, r.2.in_rows s v k.0 l h (sat.0, sat.1, k.1)),
          λ w.
              let k = (r.2.from_rows s v w.0 h w.1).1 in
              (k.0, k.1, (da k.0 v (stays closed s k.0 k.1) h).1 (w.0, k.2)),
        )
    decides (all_until a b) rows r s v l h =
        decides_all_until m laws g closed a b r.0 r.1 rows (decides a r.0 r.2) (decides b r.1 r.3)
        (inside a r.0 r.2) (inside b r.1 r.3) r.4 s v l h
    decides (some_until a b) rows r s v l h =
        decides_some_until m laws g closed a b r.0 r.1 rows (decides a r.0 r.2) (decides b r.1 r.3)
        (inside a r.0 r.2) (inside b r.1 r.3) r.4 s v l h
