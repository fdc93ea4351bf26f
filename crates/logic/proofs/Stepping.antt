-- `N`: what the rows at one successor show of a state.
use Rattle.std.proofs.Common.{◌≡◌, ℕ, ◌<◌, eqb, ◌⊎◌, List, [], Ok, sym, refl, ap, ◌∙◌, subst, inl, inr, arith}
use Rattle.flow.specs.Graph.{Graph, successors}
use Rattle.kinds.specs.Consequences.{Consequences}
use Rattle.kinds.specs.Member.{◌∈◌, here}
use Rattle.kinds.specs.Model.{Model}
use Rattle.rows.specs.declared.forest.Forest.{Forest}
use Rattle.rows.specs.declared.row.Row.{Row}
use Rattle.logic.specs.Faithful.{Covers}
use Rattle.logic.specs.Operators.{moved, of_some_next, rewritten, states, stepped}
use Rattle.logic.specs.Valuations.{Valuation}
use Rattle.logic.proofs.Members.{from_cond, from_counting, from_joined, from_one, in_cond, in_counting, in_joined}
use Rattle.logic.proofs.Shown.{Shows, add_all_gathers, shows_at}
use Rattle.std.proofs.lemmas.Bool.{eq-eqb, eqb-true}

module _ {B : Type 0} (m : Model B) where
  -- what the rows at t show of it, the rewritten rows show of s
  pub in_moved : (s t : ℕ) (rows : List (Row B)) {v : Valuation} {f : Forest} → Shows m rows t v f
      → Shows m (moved m s t rows) s v f
  unfolding moved
  in_moved s t rows w =
      record {
        row = record { state = s; boxes = w.row.boxes; forest = w.row.forest };
        among = in_joined (rewritten m s t) w.among
            (in_cond (eqb w.row.state t) _ (eq-eqb w.row.state t w.covers.state) (here refl));
        covers = record { state = refl; allowed = w.covers.allowed };
        forest = w.forest;
      }

  -- and nothing else, and of no other state
  pub from_moved : (s t : ℕ) (rows : List (Row B)) {u : ℕ} {v : Valuation} {f : Forest}
      → Shows m (moved m s t rows) u v f → (u ≡ s) × Shows m rows t v f
  unfolding moved
  from_moved s t rows {u} {v} {f} w =
      let a = from_joined (rewritten m s t) rows w.among in
      let b = from_cond (eqb a.0.state t) _ a.2 in
      let q = from_one b.1 in (
        sym w.covers.state ∙ ap (λ (r : Row B). r.state) q,
        record {
          row = a.0;
          among = a.1;
          covers = record {
            state = eqb-true a.0.state t b.0;
            allowed = (subst (λ (r : Row B). Covers m r u v) q w.covers).allowed;
          };
          forest = sym (ap (λ (r : Row B). r.forest) q) ∙ w.forest;
        },
      )

  module _ (laws : Consequences m) (g : Graph) (limit : ℕ) (ps : List (Row B)) where
    module _ {all : List (Row B)} (e : of_some_next m g limit ps ≡ Ok all) where
      -- what a shows of a successor, `N` shows of the state
      pub in_some_next : {s t : ℕ} {v : Valuation} {f : Forest} → s < g.states → t ∈ successors g s
          → Shows m ps t v f → Shows m all s v f
      unfolding of_some_next stepped
      in_some_next {s} {t} {v} {f} i j w =
          let a = in_moved s t ps w in
          (add_all_gathers m laws limit [] (stepped m g ps) e).shows s v f
          (shows_at m a (in_joined _ (in_counting 0 g.states s (omega arith) (omega arith))
          (in_joined (λ u. moved m s u ps) j a.among)))

      -- what `N` shows of a state, a shows of a successor
      pub from_some_next : {s : ℕ} {v : Valuation} {f : Forest} → Shows m all s v f
          → (s < g.states) × ((t : ℕ) × (t ∈ successors g s) × Shows m ps t v f)
      unfolding of_some_next stepped
      from_some_next {s} {v} {f} w = step ((add_all_gathers m laws limit [] (stepped m g ps) e).from w.row w.among)
        where
          step : (w.row ∈ []) ⊎ (w.row ∈ stepped m g ps)
              → (s < g.states) × ((t : ℕ) × (t ∈ successors g s) × Shows m ps t v f)
          step (inl j) = elim j [ ]
          step (inr j) =
              let a = from_joined _ (states m g) j in
              let u = a.0 in
              let b = from_joined (λ t. moved m u t ps) (successors g u) a.2 in
              let c = from_moved u b.0 ps (shows_at m w b.2) in
              let inside = from_counting 0 g.states u a.1 in (
                subst (λ (k : ℕ). k < g.states) (sym c.0) (omega arith),
                (b.0, subst (λ (k : ℕ). b.0 ∈ successors g k) (sym c.0) b.1, c.1),
              )
