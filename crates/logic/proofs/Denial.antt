-- The denial of a row shows just what the row does not cover, with no witnesses.
use Rattle.std.proofs.Common.{◌≡◌, ℕ, zero, suc, ◌<◌, Bool, true, false, cond, T, eqb, ◌⊎◌, List, [], ◌∷◌, length, replicate, sym, refl, ap, ◌∙◌, subst, inl, inr, arith}
use native.Mathlib.Decide.{ℕ_discrete}
use lib.ListN.{length-replicate}
use Rattle.flow.specs.Limits.{variables}
use Rattle.kinds.specs.Consequences.{Allows, Consequences}
use Rattle.kinds.specs.Member.{◌∈◌, here}
use Rattle.kinds.specs.Model.{Model}
use Rattle.rows.specs.Denials.{besides, denial, elsewhere}
use Rattle.rows.specs.Forests.{none}
use Rattle.rows.specs.Rows.{blank, box, with_box}
use Rattle.rows.specs.declared.forest.Forest.{Forest}
use Rattle.rows.specs.declared.row.Row.{Row}
use Rattle.logic.specs.Faithful.{Covers}
use Rattle.logic.specs.Valuations.{Valuation, Values}
use Rattle.logic.proofs.Boxes.{Fits, at, fits_blank, fits_set, from_set_own}
use Rattle.logic.proofs.Flags.{not_both}
use Rattle.logic.proofs.Members.{
  from_append,
  from_counting,
  from_joined,
  from_map,
  from_one,
  in_counting,
  in_joined,
  in_left,
  in_map,
  in_right,
}
use Rattle.logic.proofs.Naming.{covers_blank}
use Rattle.logic.proofs.Shown.{Shows}
use Rattle.std.proofs.lemmas.Bool.{eq-eqb, eqb-true}
use Rattle.std.specs.List.{range_with_len, flat_map}

module _ {B : Type 0} (m : Model B) (laws : Consequences m) where
  -- boxes that do not allow a valuation have one that does not allow its value
  misfit : (bs : List B) (v : Valuation) → Values m v → (Fits m bs v → ⊥)
      → (x : ℕ) × (x < length bs) × (Allows m (at m bs x) (v x) → ⊥)
  misfit [] v h n = absurd (n (λ x. (laws.of_all (v x)).1 (h x)))
  misfit (b ∷ bs) v h n = step (m.allows b (v 0)) refl (λ k. misfit bs (λ i. v (suc i)) (λ i. h (suc i)) k)
    where
      all : T (m.allows b (v 0)) → Fits m bs (λ i. v (suc i)) → Fits m (b ∷ bs) v
      all a f zero = a
      all a f (suc x) = f x

      step : (c : Bool) → m.allows b (v 0) ≡ c
          → ((Fits m bs (λ i. v (suc i)) → ⊥)
          → (x : ℕ) × (x < length bs) × (Allows m (at m bs x) (v (suc x)) → ⊥))
          → (x : ℕ) × (x < length (b ∷ bs)) × (Allows m (at m (b ∷ bs) x) (v x) → ⊥)
      step true e rec =
          let r = rec (λ f. n (all (subst T (sym e) tt) f)) in
          let l = r.1 in
          (suc r.0, omega arith, r.2)
      step false e rec = (0, omega arith, λ a. subst T e a)

  module _ (t : Row B) (n : ℕ) where
    -- what a row does not cover, its denial shows
    pub in_denial : length t.boxes ≡ variables → {s : ℕ} {v : Valuation} → s < n → Values m v
        → (Covers m t s v → ⊥) → Shows m (denial m n t) s v none
    unfolding denial blank
    in_denial size {s} {v} i h no_cover = step (ℕ_discrete s t.state)
      where
        not_own : (b : Bool) → eqb s t.state ≡ b → (s ≡ t.state → ⊥) → blank m s ∈ cond b [] (blank m s ∷ [])
        not_own true e d = absurd (d (eqb-true s t.state e))
        not_own false e d = here refl

        step : Dec (s ≡ t.state) → Shows m (denial m n t) s v none
        step (no d) =
            record {
              row = blank m s;
              among = in_left _ (in_joined (elsewhere m t) (in_counting 0 n s (omega arith) (omega arith))
                  (not_own (eqb s t.state) refl d));
              covers = covers_blank m laws s v h;
              forest = refl;
            }
        step (yes e) =
            let x = misfit t.boxes v h (λ f. no_cover (record { state = sym e; allowed = f })) in
            let c = (laws.of_pieces (box m t x.0) (v x.0) (h x.0)).0 x.2 in
            let l = x.1 in
            record {
              row = with_box m (blank m t.state) x.0 c.0;
              among = in_right (flat_map (elsewhere m t) (range_with_len 0 n))
                  (in_joined (besides m t) (in_counting 0 variables x.0 (omega arith) (omega arith))
                  (in_map (λ p. with_box m (blank m t.state) x.0 p) c.1));
              covers = record {
                state = sym e;
                allowed = fits_set m laws (replicate variables m.all) x.0 c.0 v
                    (λ y _. fits_blank m laws variables v h y) (λ _. c.2) h;
              };
              forest = refl;
            }

    -- what its denial shows, the row does not cover
    pub from_denial : {s : ℕ} {v : Valuation} {f : Forest} → Values m v → Shows m (denial m n t) s v f
        → (Covers m t s v → ⊥) × (f ≡ none)
    unfolding denial blank
    from_denial {s} {v} {f} h w = step (from_append (flat_map (elsewhere m t) (range_with_len 0 n)) w.among)
      where
        other : (u : ℕ) (b : Bool) → eqb u t.state ≡ b → w.row ∈ cond b [] (blank m u ∷ [])
            → (w.row ≡ blank m u) × (u ≡ t.state → ⊥)
        other u true e j = elim j [ ]
        other u false e j = (from_one j, λ q. not_both (eq-eqb u t.state q) e)

        step : (w.row ∈ flat_map (elsewhere m t) (range_with_len 0 n)) ⊎ (w.row ∈ flat_map (besides m t) (range_with_len 0 variables))
            → (Covers m t s v → ⊥) × (f ≡ none)
        step (inl j) =
            let a = from_joined (elsewhere m t) (range_with_len 0 n) j in
            let b = other a.0 (eqb a.0 t.state) refl a.2 in (
              λ c. b.1 (sym (ap (λ (r : Row B). r.state) b.0) ∙ w.covers.state ∙ sym c.state),
              sym w.forest ∙ ap (λ (r : Row B). r.forest) b.0,
            )
        step (inr j) =
            let a = from_joined (besides m t) (range_with_len 0 variables) j in
            let x = a.0 in
            let inside = from_counting 0 variables x a.1 in
            let b = from_map (λ p. with_box m (blank m t.state) x p) (m.pieces (box m t x)) a.2 in
            let fits = subst (λ (r : Row B). Fits m r.boxes v) b.2 w.covers.allowed in
            let own = from_set_own m laws (replicate variables m.all) x b.0 v (rw length-replicate (omega arith))
            fits in (
              λ c. (laws.of_pieces (box m t x) (v x) (h x)).1 (b.0, b.1, own) (c.allowed x),
              sym w.forest ∙ ap (λ (r : Row B). r.forest) b.2,
            )
