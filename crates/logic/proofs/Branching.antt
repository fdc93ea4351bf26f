-- `X`: what the rows at each successor show of a state.
use Rattle.std.proofs.Common.{◌≡◌, ℕ, ◌<◌, ◌⊎◌, List, [], ◌∷◌, Ok, sym, refl, ap, ◌∙◌, subst, inl, inr, arith}
use Rattle.flow.specs.Graph.{Graph, successors}
use Rattle.kinds.specs.Consequences.{Consequences}
use Rattle.kinds.specs.Member.{◌∈◌, here, there}
use Rattle.kinds.specs.Model.{Model}
use Rattle.rows.specs.Forests.{none}
use Rattle.rows.specs.Rows.{blank}
use Rattle.rows.specs.declared.forest.Forest.{Forest}
use Rattle.rows.specs.declared.row.Row.{Row}
use Rattle.logic.specs.Adding.{add_all, pairing}
use Rattle.logic.specs.Operators.{all_next_from, in_turn, moved, of_all_next, states}
use Rattle.logic.specs.Valuations.{Valuation, Values}
use Rattle.logic.proofs.Members.{from_counting, from_one, in_counting}
use Rattle.logic.proofs.Naming.{covers_blank}
use Rattle.logic.proofs.Pairing.{from_pairing_shown, in_pairing}
use Rattle.logic.proofs.Shown.{Shows, add_all_gathers, shows_at, shows_in}
use Rattle.logic.proofs.Stepping.{from_moved, in_moved}
use Rattle.logic.proofs.Thens.{ok_inj, then_parts}
use Rattle.logic.proofs.Through.{Turns, over, turn}

module _ {B : Type 0} (m : Model B) (laws : Consequences m) (g : Graph) (limit : ℕ) (ps : List (Row B)) where
  -- pairing in turn shows what was shown and each list in turn shows
  in_in_turn : (s : ℕ) (rows : List (Row B)) (ts : List ℕ) {left : List (Row B)}
      → in_turn m g limit s ps rows ts ≡ Ok left → {v : Valuation} {f h : Forest} → Shows m rows s v f
      → Turns m ps v ts f h → Shows m left s v h
  in_in_turn s rows ts e {v} {f} {h} w through = go rows ts e w through
    where
      go : (rows : List (Row B)) (ts : List ℕ) {left : List (Row B)} → in_turn m g limit s ps rows ts ≡ Ok left
          → {f h : Forest} → Shows m rows s v f → Turns m ps v ts f h → Shows m left s v h
      go rows [] e {f} w over = subst (λ (z : List (Row B)). Shows m z s v f) (ok_inj e) w
      go rows (t ∷ ts) e w (turn u rest) =
          let a = then_parts (pairing m limit rows (moved m s t ps)) (λ left. in_turn m g limit s ps left ts) e in
          go a.0 ts a.2
          (in_pairing m laws limit rows (moved m s t ps) a.1 w (in_moved m s t ps u)) rest

  -- and nothing else
  from_in_turn : (s : ℕ) (rows : List (Row B)) (ts : List ℕ) {left : List (Row B)}
      → in_turn m g limit s ps rows ts ≡ Ok left → {u : ℕ} {v : Valuation} {h : Forest} → Values m v
      → Shows m left u v h → (f : Forest) × Shows m rows u v f × Turns m ps v ts f h
  from_in_turn s rows [] e {u} {v} {h} k w =
      (h, subst (λ (z : List (Row B)). Shows m z u v h) (sym (ok_inj e)) w, over)
  from_in_turn s rows (t ∷ ts) e {u} {v} {h} k w =
      let a = then_parts (pairing m limit rows (moved m s t ps)) (λ left. in_turn m g limit s ps left ts) e in
      let r = from_in_turn s a.0 ts a.2 k w in
      let p = from_pairing_shown m laws limit rows (moved m s t ps) a.1 k r.1 in (
        p.0,
        p.2,
        turn (from_moved m s t ps p.3).1
            (subst (λ (x : Forest). Turns m ps v ts x h) p.4 r.2),
      )

  -- `X`, state by state: what was there stays, and each state adds its own
  all_keeps : (rows : List (Row B)) (ss : List ℕ) {all : List (Row B)} → all_next_from m g limit ps rows ss ≡ Ok all
      → (p : Row B) → p ∈ rows → p ∈ all
  all_keeps rows [] e p i = subst (λ (z : List (Row B)). p ∈ z) (ok_inj e) i
  all_keeps rows (s ∷ ss) e p i =
      let a = then_parts (in_turn m g limit s ps (blank m s ∷ []) (successors g s)) _ e in
      let b = then_parts (add_all m limit rows a.0) (λ more. all_next_from m g limit ps more ss) a.2 in
      all_keeps b.0 ss b.2 p ((add_all_gathers m laws limit rows a.0 b.1).keeps p i)

  -- what the successors of a state show in turn, the rows that are left of that state show
  in_own_turn : (s : ℕ) {left : List (Row B)} → in_turn m g limit s ps (blank m s ∷ []) (successors g s) ≡ Ok left
      → {v : Valuation} {h : Forest} → Values m v → Turns m ps v (successors g s) none h
      → Shows m left s v h
  unfolding blank
  in_own_turn s e {v} k w =
      in_in_turn s (blank m s ∷ []) (successors g s) e
      (record { row = blank m s; among = here refl; covers = covers_blank m laws s v k; forest = refl }) w

  -- and nothing else, and of no other state
  from_own_turn : (s : ℕ) {left : List (Row B)} → in_turn m g limit s ps (blank m s ∷ []) (successors g s) ≡ Ok left
      → {u : ℕ} {v : Valuation} {h : Forest} → Values m v → Shows m left u v h
      → (s ≡ u) × Turns m ps v (successors g s) none h
  unfolding blank
  from_own_turn s e {u} {v} {h} k w =
      let r = from_in_turn s (blank m s ∷ []) (successors g s) e k w in
      let q = from_one r.1.among in (
        sym (ap (λ (x : Row B). x.state) q) ∙ r.1.covers.state,
        subst (λ (f : Forest). Turns m ps v (successors g s) f h)
            (sym r.1.forest ∙ ap (λ (x : Row B). x.forest) q) r.2,
      )

  -- each state that is gone through shows what its own turn left
  in_all_from : (rows : List (Row B)) (ss : List ℕ) {all : List (Row B)} → all_next_from m g limit ps rows ss ≡ Ok all
      → {s : ℕ} {v : Valuation} {h : Forest} → s ∈ ss → Values m v
      → Turns m ps v (successors g s) none h → Shows m all s v h
  in_all_from rows [] e i k w = elim i [ ]
  in_all_from rows (s ∷ ss) {all} e {s = u} {v} {h} i k w =
      let a = then_parts (in_turn m g limit s ps (blank m s ∷ []) (successors g s)) _ e in
      let b = then_parts (add_all m limit rows a.0) (λ more. all_next_from m g limit ps more ss) a.2 in
      step a.0 b.0 a.1 b.1 b.2 (λ j. in_all_from b.0 ss b.2 j k w) i
    where
      step : (left more : List (Row B)) → in_turn m g limit s ps (blank m s ∷ []) (successors g s) ≡ Ok left
          → add_all m limit rows left ≡ Ok more → all_next_from m g limit ps more ss ≡ Ok all
          → (u ∈ ss → Shows m all u v h) → u ∈ (s ∷ ss) → Shows m all u v h
      step left more a b c rec (there j) = rec j
      step left more a b c rec (here q) =
          let own = in_own_turn s a k (subst (λ (x : ℕ). Turns m ps v (successors g x) none h) q w) in
          shows_in m (all_keeps more ss c)
          ((add_all_gathers m laws limit rows left b).shows u v h
          (subst (λ (x : ℕ). Shows m left x v h) (sym q) own))

  -- and what is shown was there before, or is of a state that is gone through
  from_all_from : (rows : List (Row B)) (ss : List ℕ) {all : List (Row B)}
      → all_next_from m g limit ps rows ss ≡ Ok all → {u : ℕ} {v : Valuation} {h : Forest} → Values m v
      → Shows m all u v h
      → Shows m rows u v h ⊎ ((u ∈ ss) × Turns m ps v (successors g u) none h)
  from_all_from rows [] e {u} {v} {h} k w = inl (subst (λ (z : List (Row B)). Shows m z u v h) (sym (ok_inj e)) w)
  from_all_from rows (s ∷ ss) e {u} {v} {h} k w =
      let a = then_parts (in_turn m g limit s ps (blank m s ∷ []) (successors g s)) _ e in
      let b = then_parts (add_all m limit rows a.0) (λ more. all_next_from m g limit ps more ss) a.2 in
      later a.0 b.0 a.1 b.1 (from_all_from b.0 ss b.2 k w)
    where
      added : (left : List (Row B)) → in_turn m g limit s ps (blank m s ∷ []) (successors g s) ≡ Ok left
          → {more : List (Row B)} (q : Shows m more u v h) → (q.row ∈ rows) ⊎ (q.row ∈ left)
          → Shows m rows u v h ⊎ ((u ∈ (s ∷ ss)) × Turns m ps v (successors g u) none h)
      added left a q (inl j) = inl (shows_at m q j)
      added left a q (inr j) =
          let r = from_own_turn s a k (shows_at m q j) in
          inr (here (sym r.0), subst (λ (x : ℕ). Turns m ps v (successors g x) none h) r.0 r.1)

      later : (left more : List (Row B)) → in_turn m g limit s ps (blank m s ∷ []) (successors g s) ≡ Ok left
          → add_all m limit rows left ≡ Ok more
          → Shows m more u v h ⊎ ((u ∈ ss) × Turns m ps v (successors g u) none h)
          → Shows m rows u v h ⊎ ((u ∈ (s ∷ ss)) × Turns m ps v (successors g u) none h)
      later left more a b (inr r) = inr (there r.0, r.1)
      later left more a b (inl q) = added left a q ((add_all_gathers m laws limit rows left b).from q.row q.among)

  module _ {all : List (Row B)} (e : of_all_next m g limit ps ≡ Ok all) where
    -- what a shows of each successor, united in turn, `X` shows of the state
    pub in_all_next : {s : ℕ} {v : Valuation} {h : Forest} → s < g.states → Values m v
        → Turns m ps v (successors g s) none h → Shows m all s v h
    unfolding of_all_next
    in_all_next {s} i k w = in_all_from [] (states m g) e (in_counting 0 g.states s (omega arith) (omega arith)) k w

    -- what `X` shows of a state, a shows of each successor
    pub from_all_next : {s : ℕ} {v : Valuation} {h : Forest} → Values m v → Shows m all s v h
        → (s < g.states) × Turns m ps v (successors g s) none h
    unfolding of_all_next
    from_all_next {s} {v} {h} k w = step (from_all_from [] (states m g) e k w)
      where
        step : Shows m [] s v h ⊎ ((s ∈ states m g) × Turns m ps v (successors g s) none h)
            → (s < g.states) × Turns m ps v (successors g s) none h
        step (inl q) = elim q.among [ ]
        step (inr r) = let inside = from_counting 0 g.states s r.0 in (omega arith, r.1)
