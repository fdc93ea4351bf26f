-- `P`: what the rows of labels show, and where they came from.
use Rattle.std.proofs.Common.{◌≡◌, ℕ, ◌<◌, Bool, true, ◌&&◌, eqb, ◌⊎◌, List, [], ◌∷◌, map, length, Some, None, Ok, Option, sym, refl, ap, ◌∙◌, subst, inl, inr, arith, length-set}
use lib.ListN.{length-replicate}
use Rattle.flow.specs.Graph.{Graph, Label}
use Rattle.flow.specs.Limits.{variables}
use Rattle.kinds.specs.Consequences.{Consequences, Nameable}
use Rattle.kinds.specs.Member.{◌∈◌, here, there}
use Rattle.kinds.specs.Model.{Model}
use Rattle.rows.specs.Forests.{none}
use Rattle.rows.specs.Rows.{blank, box, with_box}
use Rattle.rows.specs.declared.forest.Forest.{Forest}
use Rattle.rows.specs.declared.row.Row.{Row}
use Rattle.logic.specs.Faithful.{Covers}
use Rattle.logic.specs.Operators.{labelled, met_with, naming, narrowed, of_label, of_predicate, states}
use Rattle.logic.specs.Satisfied.{Labelled}
use Rattle.logic.specs.Valuations.{Valuation, Values}
use Rattle.logic.proofs.Boxes.{fits_all_but, fits_blank, fits_set, from_set, from_set_own, met}
use Rattle.logic.proofs.Members.{
  from_cond,
  from_counting,
  from_joined,
  from_listed,
  in_cond,
  in_counting,
  in_joined,
  in_listed,
}
use Rattle.logic.proofs.Shown.{Shows, add_all_gathers}
use Rattle.std.proofs.lemmas.Bool.{and_parts, eq-eqb, eqb-true}

module _ {B : Type 0} (m : Model B) (laws : Consequences m) where
  -- the blank row of a state covers it under every valuation
  pub covers_blank : (s : ℕ) (v : Valuation) → Values m v → Covers m (blank m s) s v
  unfolding blank
  covers_blank s v h = record { state = refl; allowed = fits_blank m laws variables v h }

  -- where naming came to a row, the first variable was narrowed
  pub naming_parts : (o : Option (Row B)) (xs ns : List ℕ) {q : Row B} → naming m o xs ns ≡ Some q
      → (r : Row B) × (o ≡ Some r)
  naming_parts None xs ns e = cc
  naming_parts (Some r) xs ns e = (r, refl)

  -- a variable was narrowed only where its box met the value
  pub narrowed_parts : (r : Row B) (x : ℕ) (o : Option B) {q : Row B} → narrowed m r x o ≡ Some q
      → (b : B) × (o ≡ Some b) × (q ≡ with_box m r x b)
  narrowed_parts r x None e = cc
  narrowed_parts r x (Some b) e = (b, refl, cc)

  -- the row covers only where the variables have the values named
  from_naming : (r q : Row B) (xs ns : List ℕ) → ((x : ℕ) → x ∈ xs → x < length r.boxes)
      → ((n : ℕ) → n ∈ ns → Nameable m n) → naming m (Some r) xs ns ≡ Some q → (s : ℕ) (v : Valuation) → Values m v
      → Covers m q s v → Covers m r s v × (ns ≡ map v xs) × (q.forest ≡ r.forest)
  from_naming r q [] [] l k e s v h c =
      let same : r ≡ q = cc in
      (subst (λ (x : Row B). Covers m x s v) (sym same) c, refl, ap (λ (x : Row B). x.forest) (sym same))
  from_naming r q [] (n ∷ ns) l k e s v h c = cc
  from_naming r q (x ∷ xs) [] l k e s v h c = cc
  from_naming r q (x ∷ xs) (n ∷ ns) l k e s v h c =
      let one = laws.of_one n (k n (here refl)) in
      let narrow = narrowed m r x (met_with m (box m r x) (m.one n)) in
      let a = naming_parts narrow xs ns e in
      let b = narrowed_parts r x (met_with m (box m r x) (m.one n)) a.1 in
      let d = b.0 in
      let e' = ap (λ (o : Option (Row B)). naming m o xs ns) (sym (a.1 ∙ ap Some b.2)) ∙ e in
      let w = from_naming (with_box m r x d) q xs ns (λ y i. rw length-set (l y (there i))) (λ y i. k y (there i)) e'
      s v h c in
      let meets : m.meet (box m r x) one.0 ≡ Some d = ap (met_with m (box m r x)) (sym one.1) ∙ b.1 in
      let own = from_set_own m laws r.boxes x d v (l x (here refl)) w.0.allowed in
      let parts = (laws.of_meet (box m r x) one.0 d meets (v x)).0 own in (
        record {
          state = w.0.state;
          allowed = fits_all_but m laws r.boxes x v (from_set m laws r.boxes x d v w.0.allowed) parts.0;
        },
        cc ((one.2 (v x)).0 parts.1, w.1),
        w.2,
      )

  -- where the variables have the values named, there is a row that covers
  in_naming : (r : Row B) (xs ns : List ℕ) → ((n : ℕ) → n ∈ ns → Nameable m n) → {s : ℕ} {v : Valuation}
      → Values m v → Covers m r s v → ns ≡ map v xs
      → (q : Row B) × (naming m (Some r) xs ns ≡ Some q) × Covers m q s v × (q.forest ≡ r.forest)
  in_naming r [] [] k h c e = (r, refl, c, refl)
  in_naming r [] (n ∷ ns) k h c e = cc
  in_naming r (x ∷ xs) [] k h c e = cc
  in_naming r (x ∷ xs) (n ∷ ns) k {s} {v} h c e =
      let one = laws.of_one n (k n (here refl)) in
      let head : v x ≡ n = cc in
      let tail : ns ≡ map v xs = cc in
      let d = met m laws (box m r x) one.0 (v x) (c.allowed x) ((one.2 (v x)).1 head) in
      let narrow : narrowed m r x (met_with m (box m r x) (m.one n)) ≡ Some (with_box m r x d.0) =
      ap (narrowed m r x) (ap (met_with m (box m r x)) one.1 ∙ d.1) in
      let covers : Covers m (with_box m r x d.0) s v =
      record {
        state = c.state;
        allowed = fits_set m laws r.boxes x d.0 v (λ y _. c.allowed y) (λ _. d.2) h;
      } in
      let w = in_naming (with_box m r x d.0) xs ns (λ y i. k y (there i)) h covers tail in
      (w.0, ap (λ (o : Option (Row B)). naming m o xs ns) narrow ∙ w.1, w.2, w.3)

  module _ (g : Graph) (limit p : ℕ) (xs : List ℕ) {all : List (Row B)} (e : of_predicate m g limit p xs ≡ Ok all)
      (nameable : (l : Label) → l ∈ g.labels → (n : ℕ) → n ∈ l.values → Nameable m n) where
    -- a label with the predicate and the values is shown, with no witnesses
    pub in_predicate : {s : ℕ} {v : Valuation} → s < g.states → Values m v → Labelled g s p (map v xs)
        → Shows m all s v none
    unfolding of_predicate labelled blank
    in_predicate {s} {v} i h w =
        let l = w.label in
        let q = in_naming (blank m s) xs l.values (nameable l w.among) h (covers_blank s v h) w.of_values in
        let here_test : (eqb l.state s && eqb l.predicate p) ≡ true =
        ap (λ (b : Bool). b && eqb l.predicate p) (eq-eqb l.state s w.at_state)
        ∙ eq-eqb l.predicate p w.says in
        (add_all_gathers m laws limit [] (labelled m g p xs) e).shows s v none
        (record {
          row = q.0;
          among = in_joined _ (in_counting 0 g.states s (omega arith) (omega arith))
              (in_joined (of_label m g p xs s) w.among (in_cond _ _ here_test (in_listed _ q.1)));
          covers = q.2;
          forest = q.3;
        })

    -- what is shown, a label says
    pub from_predicate : ((x : ℕ) → x ∈ xs → x < variables) → {s : ℕ} {v : Valuation} {f : Forest} → Values m v
        → Shows m all s v f → (s < g.states) × Labelled g s p (map v xs) × (f ≡ none)
    unfolding of_predicate labelled blank
    from_predicate small {s} {v} {f} h w =
        step ((add_all_gathers m laws limit [] (labelled m g p xs) e).from w.row w.among)
      where
        step : (w.row ∈ []) ⊎ (w.row ∈ labelled m g p xs) → (s < g.states) × Labelled g s p (map v xs) × (f ≡ none)
        step (inl j) = elim j [ ]
        step (inr j) =
            let a = from_joined _ (states m g) j in
            let b = from_joined (of_label m g p xs a.0) g.labels a.2 in
            let l = b.0 in
            let c = from_cond _ _ b.2 in
            let t = and_parts (eqb l.state a.0) (eqb l.predicate p) c.0 in
            let n = from_naming (blank m a.0) w.row xs l.values (λ x i. rw length-replicate (small x i))
            (nameable l b.1) (from_listed _ c.1) s v h w.covers in
            let at = eqb-true l.state a.0 t.0 in
            let there_state = n.0.state in
            let inside = from_counting 0 g.states a.0 a.1 in (
              subst (λ (u : ℕ). u < g.states) there_state (omega arith),
              record {
                label = l;
                among = b.1;
                at_state = at ∙ there_state;
                says = eqb-true l.predicate p t.1;
                of_values = n.1;
              },
              sym w.forest ∙ n.2,
            )
