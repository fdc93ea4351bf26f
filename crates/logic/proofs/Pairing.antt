-- Rows joined, and lists paired: what a pairing shows, and where its rows came from.
use Rattle.std.proofs.Common.{◌≡◌, ℕ, Bool, true, false, cond, eqb, ◌⊎◌, List, [], Some, None, Ok, Option, sym, refl, ap, ◌∙◌, subst, inl, inr}
use Rattle.kinds.specs.Consequences.{Consequences}
use Rattle.kinds.specs.Member.{◌∈◌}
use Rattle.kinds.specs.Model.{Model}
use Rattle.rows.specs.Forests.{union}
use Rattle.rows.specs.Rows.{join, meets, row_of}
use Rattle.rows.specs.declared.forest.Forest.{Forest}
use Rattle.rows.specs.declared.row.Row.{Row}
use Rattle.logic.specs.Adding.{pairing, pairs}
use Rattle.logic.specs.Faithful.{Covers}
use Rattle.logic.specs.Valuations.{Valuation, Values}
use Rattle.logic.proofs.Boxes.{Fits, from_meets, in_meets}
use Rattle.logic.proofs.Members.{from_joined, from_listed, in_joined, in_listed}
use Rattle.logic.proofs.Shown.{Shows, add_all_gathers}
use Rattle.std.proofs.lemmas.Bool.{eq-eqb, eqb-true}
use Rattle.std.specs.List.{flat_map}
use Rattle.std.specs.Option.{option_to_list}

module _ {B : Type 0} (m : Model B) (laws : Consequences m) where
  -- the row r is what p and q join to: it covers only what both cover, and has the witnesses of both
  pub record Joins (p q r : Row B) : Type 0 where
    pub left : (s : ℕ) (v : Valuation) → Values m v → Covers m r s v → Covers m p s v
    pub right : (s : ℕ) (v : Valuation) → Values m v → Covers m r s v → Covers m q s v
    pub forests : r.forest ≡ union p.forest q.forest

  -- a row is there only where its boxes are
  pub row_parts : (s : ℕ) (o : Option (List B)) (f : Forest) {r : Row B} → row_of m s o f ≡ Some r
      → (bs : List B) × (o ≡ Some bs) × (r ≡ record { state = s; boxes = bs; forest = f })
  row_parts s None f e = cc
  row_parts s (Some bs) f e = (bs, refl, cc)

  -- where rows join
  from_join : (p q : Row B) {r : Row B} → join m p q ≡ Some r → Joins p q r
  unfolding join
  from_join p q {r} e = step (eqb p.state q.state) refl e
    where
      step : (b : Bool) → eqb p.state q.state ≡ b
          → cond b (row_of m p.state (meets m p.boxes q.boxes) (union p.forest q.forest)) None ≡ Some r
          → Joins p q r
      step false t e = cc
      step true t e =
          let a = row_parts p.state (meets m p.boxes q.boxes) (union p.forest q.forest) e in
          let same = eqb-true p.state q.state t in
          let boxes = ap (λ (x : Row B). x.boxes) a.2 in
          let state = ap (λ (x : Row B). x.state) a.2 in
          let fits : (v : Valuation) → Fits m r.boxes v → Fits m a.0 v =
          λ v f. subst (λ (bs : List B). Fits m bs v) boxes f in
          record {
            left = λ s v h c. record {
              state = sym state ∙ c.state;
              allowed = (from_meets m laws p.boxes q.boxes a.1 v h (fits v c.allowed)).0;
            };
            right = λ s v h c. record {
              state = sym same ∙ (sym state ∙ c.state);
              allowed = (from_meets m laws p.boxes q.boxes a.1 v h (fits v c.allowed)).1;
            };
            forests = ap (λ (x : Row B). x.forest) a.2;
          }

  -- rows that cover a state and a valuation both join to a row that covers them too
  in_join : (p q : Row B) {s : ℕ} {v : Valuation} → Covers m p s v → Covers m q s v
      → (r : Row B) × (join m p q ≡ Some r) × Covers m r s v × (r.forest ≡ union p.forest q.forest)
  unfolding join
  in_join p q {s} {v} c d =
      let f = in_meets m laws p.boxes q.boxes v c.allowed d.allowed in
      let t : eqb p.state q.state ≡ true = eq-eqb p.state q.state (c.state ∙ sym d.state) in
      let both = union p.forest q.forest in (
        record { state = p.state; boxes = f.0; forest = both },
        ap (λ (b : Bool). cond b (row_of m p.state (meets m p.boxes q.boxes) both) None) t
            ∙ ap (λ (o : Option (List B)). row_of m p.state o both) f.1,
        record { state = c.state; allowed = f.2 },
        refl,
      )

  module _ (limit : ℕ) (ps qs : List (Row B)) {all : List (Row B)} (e : pairing m limit ps qs ≡ Ok all) where
    -- what both lists show, their pairing shows, with the witnesses of both
    pub in_pairing : {s : ℕ} {v : Valuation} {f h : Forest} → Shows m ps s v f → Shows m qs s v h
        → Shows m all s v (union f h)
    unfolding pairing pairs
    in_pairing {s} {v} {f} {h} a b =
        let j = in_join a.row b.row a.covers b.covers in
        (add_all_gathers m laws limit [] (pairs m ps qs) e).shows s v (union f h)
        (record {
          row = j.0;
          among = in_joined (λ p. flat_map (λ q. option_to_list (join m p q)) qs) a.among
              (in_joined (λ q. option_to_list (join m a.row q)) b.among (in_listed _ j.1));
          covers = j.2;
          forest = j.3 ∙ ap (λ (x : Forest). union x b.row.forest) a.forest ∙ ap (union f) b.forest;
        })

    -- each row of a pairing is joined from a row of each list
    pub from_pairing : (r : Row B) → r ∈ all → (p : Row B) × (q : Row B) × (p ∈ ps) × (q ∈ qs) × (join m p q ≡ Some r)
    unfolding pairing pairs
    from_pairing r i = step ((add_all_gathers m laws limit [] (pairs m ps qs) e).from r i)
      where
        step : (r ∈ []) ⊎ (r ∈ pairs m ps qs) → (p : Row B) × (q : Row B) × (p ∈ ps) × (q ∈ qs) × (join m p q ≡ Some r)
        step (inl j) = elim j [ ]
        step (inr j) =
            let a = from_joined (λ p. flat_map (λ q. option_to_list (join m p q)) qs) ps j in
            let b = from_joined (λ q. option_to_list (join m a.0 q)) qs a.2 in
            (a.0, b.0, a.1, b.1, from_listed _ b.2)

    -- what a pairing shows, both lists show
    pub from_pairing_shown : {s : ℕ} {v : Valuation} {f : Forest} → Values m v → Shows m all s v f
        → (a : Forest) × (b : Forest) × Shows m ps s v a × Shows m qs s v b × (f ≡ union a b)
    from_pairing_shown {s} {v} {f} h w =
        let j = from_pairing w.row w.among in
        let k = from_join j.0 j.1 j.4 in (
          j.0.forest,
          j.1.forest,
          record { row = j.0; among = j.2; covers = k.left s v h w.covers; forest = refl },
          record { row = j.1; among = j.3; covers = k.right s v h w.covers; forest = refl },
          sym w.forest ∙ k.forests,
        )
