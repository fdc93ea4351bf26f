-- Rows that cover a state and a valuation: found, and looked for.
use Rattle.std.proofs.Common.{◌≡◌, ℕ, List, [], ◌∷◌, refl, subst}
use native.Mathlib.Decide.{ℕ_discrete}
use Rattle.kinds.specs.Consequences.{Consequences}
use Rattle.kinds.specs.Member.{◌∈◌, here, there}
use Rattle.kinds.specs.Model.{Model}
use Rattle.rows.specs.Rows.{box}
use Rattle.rows.specs.declared.forest.Forest.{Forest}
use Rattle.rows.specs.declared.row.Row.{Row}
use Rattle.logic.specs.Faithful.{Covered, Covers}
use Rattle.logic.specs.Valuations.{Valuation, Values}
use Rattle.logic.proofs.Boxes.{Fits, fits?}
use Rattle.logic.proofs.Shown.{Shows, shows_at, shows_in}

module _ {B : Type 0} (m : Model B) where
  -- some row shows the state at the valuation
  abbrev pub Shown : List (Row B) → ℕ → Valuation → Type 0
  Shown rows s v = (f : Forest) × Shows m rows s v f

  -- what rows show they cover, and what they cover they show with the forest of the row
  pub covered : {rows : List (Row B)} {s : ℕ} {v : Valuation} → Shown rows s v → Covered m rows s v
  covered w = (w.1.row, w.1.among, w.1.covers)

  pub shown_of : {rows : List (Row B)} {s : ℕ} {v : Valuation} → Covered m rows s v → Shown rows s v
  shown_of c = (c.0.forest, record { row = c.0; among = c.1; covers = c.2; forest = refl })

  module _ (laws : Consequences m) where
    -- whether a row covers a state and a valuation can be decided
    pub covers? : (r : Row B) (s : ℕ) (v : Valuation) → Values m v → Dec (Covers m r s v)
    covers? r s v h = step (ℕ_discrete r.state s) (fits? m r.boxes v h laws)
      where
        step : Dec (r.state ≡ s) → Dec (Fits m r.boxes v) → Dec (Covers m r s v)
        step (yes e) (yes f) = yes (record { state = e; allowed = f })
        step (yes e) (no n) = no (λ c. n c.allowed)
        step (no d) f = no (λ c. d c.state)

    -- every row covers its state under some valuation
    pub some_covered : (r : Row B) → (v : Valuation) × Values m v × Covers m r r.state v
    some_covered r = (
      (λ x. (laws.filled (box m r x)).0),
      (λ x. laws.within (box m r x) (laws.filled (box m r x)).0 (laws.filled (box m r x)).1),
      record { state = refl; allowed = λ x. (laws.filled (box m r x)).1 },
    )

    -- whether rows show a state at a valuation can be decided
    pub shown? : (rows : List (Row B)) (s : ℕ) (v : Valuation) → Values m v → Dec (Shown rows s v)
    shown? [] s v h = no (λ w. elim w.1.among [ ])
    shown? (r ∷ rows) s v h = step (covers? r s v h) (shown? rows s v h)
      where
        from : (Covers m r s v → ⊥) → (Shown rows s v → ⊥) → (w : Shown (r ∷ rows) s v) → w.1.row ∈ (r ∷ rows) → ⊥
        from a b w (here e) = a (subst (λ (x : Row B). Covers m x s v) e w.1.covers)
        from a b w (there i) = b (w.0, shows_at m w.1 i)

        step : Dec (Covers m r s v) → Dec (Shown rows s v) → Dec (Shown (r ∷ rows) s v)
        step (yes c) d = yes (r.forest, record { row = r; among = here refl; covers = c; forest = refl })
        step (no a) (yes w) = yes (w.0, shows_in m (λ p i. there i) w.1)
        step (no a) (no b) = no (λ w. from a b w w.1.among)
