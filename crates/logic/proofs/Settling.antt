-- The rounds of an until: what its list has at the end, whatever the step.
use Rattle.std.proofs.Common.{◌≡◌, ℕ, suc, ◌+◌, ◌⊎◌, List, Ok, Err, sym, refl, subst, inl, inr}
use Rattle.kinds.specs.Consequences.{Consequences}
use Rattle.kinds.specs.Member.{◌∈◌}
use Rattle.kinds.specs.Model.{Model}
use Rattle.rows.specs.Forests.{union}
use Rattle.rows.specs.declared.forest.Forest.{Forest}
use Rattle.rows.specs.declared.row.Row.{Row}
use Rattle.logic.specs.Adding.{pairing}
use Rattle.logic.specs.Outcomes.{Outcome}
use Rattle.logic.specs.Rounds.{Rounds, Settled, last, more, one_more, round, stops}
use Rattle.logic.specs.Valuations.{Valuation, Values}
use Rattle.logic.proofs.Pairing.{from_pairing_shown, in_pairing}
use Rattle.logic.proofs.Shown.{Gathers, Shows, add_all_gathers, shows_at}
use Rattle.logic.proofs.Thens.{err_ok, ok_inj, then_parts}

module _ {B : Type 0} (m : Model B) (laws : Consequences m) (limit : ℕ)
    (step : List (Row B) → Outcome (List (Row B))) (ps : List (Row B)) where
  -- one round: the step of the list, the pairing with a, and the list that is left
  pub record Turned (rows longer : List (Row B)) : Type 0 where
    pub next : List (Row B)
    pub stepped : step rows ≡ Ok next
    pub paired : List (Row B)
    pub pairs : pairing m limit ps next ≡ Ok paired
    pub gathers : Gathers m rows paired longer

  -- a round that came to a list had all its parts
  turned : {rows longer : List (Row B)} → round m limit step ps rows ≡ Ok longer → Turned rows longer
  unfolding round
  turned {rows} {longer} e =
      let a = then_parts (step rows) _ e in
      let b = then_parts (pairing m limit ps a.0) _ a.2 in
      record {
        next = a.0;
        stepped = a.1;
        paired = b.0;
        pairs = b.1;
        gathers = add_all_gathers m laws limit rows b.0 b.2;
      }

  -- what holds of the rounds of an answer, by going through them
  module _ (P : List (Row B) → List (Row B) → ℕ → Type 0)
      (at_last : (rows : List (Row B)) → Turned rows rows → P rows rows 1)
      (at_more : (rows longer end : List (Row B)) (n : ℕ) → Turned rows longer → P longer end n
      → P rows end (n + 1)) where
    -- where rounds with one before came to rows, so did the rounds
    one_more_parts : (out : Outcome (Settled B)) {z : Settled B} → one_more out ≡ Ok z
        → (y : Settled B) × (out ≡ Ok y) × (z ≡ record { rows = y.rows; rounds = y.rounds + 1 })
    one_more_parts (Ok y) e = (y, refl, sym (ok_inj e))
    one_more_parts (Err x) e = absurd (err_ok e)

    go : {rows : List (Row B)} {out : Outcome (Settled B)} → Rounds (round m limit step ps) rows out
        → (z : Settled B) → out ≡ Ok z → P rows z.rows z.rounds
    go (stops e) z q = absurd (err_ok q)
    go (last {rows = rows} e) z q =
        subst (λ (y : Settled B). P rows y.rows y.rounds) (ok_inj q) (at_last rows (turned e))
    go (more {rows = rows} {longer = longer} {out = out} e l rest) z q =
        let a = one_more_parts out q in
        subst (λ (y : Settled B). P rows y.rows y.rounds) (sym a.2)
        (at_more rows longer a.0.rows a.0.rounds (turned e) (go rest a.0 a.1))

    -- from the last round back to the first
    pub through_rounds : {rows : List (Row B)} {z : Settled B} → Rounds (round m limit step ps) rows (Ok z)
        → P rows z.rows z.rounds
    through_rounds {z = z} r = go r z refl

  module _ {rows : List (Row B)} {z : Settled B} (r : Rounds (round m limit step ps) rows (Ok z)) where
    -- what the list has at first, it has at the end
    pub rounds_keep : (p : Row B) → p ∈ rows → p ∈ z.rows
    rounds_keep =
        through_rounds (λ (x y : List (Row B)) n. (p : Row B) → p ∈ x → p ∈ y) (λ x t p i. i)
        (λ x y end n t keep p i. keep p (t.gathers.keeps p i)) r

    -- at the end a round more would leave the list as it is
    pub rounds_end : Turned z.rows z.rows
    rounds_end = through_rounds (λ (x y : List (Row B)) n. Turned y y) (λ x t. t) (λ x y end n t last. last) r

    -- what a and the step of the last list both show, the last list shows
    pub shows_again : {s : ℕ} {v : Valuation} {f h : Forest} → Shows m ps s v f → Shows m rounds_end.next s v h
        → Shows m z.rows s v (union f h)
    shows_again {s} {v} {f} {h} a b =
        rounds_end.gathers.shows s v (union f h)
        (in_pairing m laws limit ps rounds_end.next rounds_end.pairs a b)

  -- what holds of all that is shown at first, and again after each round, holds of all that is shown at the end
  pub rounds_shown : (v : Valuation) → Values m v → (Ok' : ℕ → ℕ → Forest → Type 0)
      → ((k s : ℕ) (f : Forest) → Ok' k s f → Ok' (suc k) s f)
      → ((k : ℕ) (rows next : List (Row B)) → step rows ≡ Ok next
      → ((s : ℕ) (f : Forest) → Shows m rows s v f → Ok' k s f)
      → (s : ℕ) (f h : Forest) → Shows m ps s v f → Shows m next s v h → Ok' (suc k) s (union f h))
      → {rows : List (Row B)} {z : Settled B} → Rounds (round m limit step ps) rows (Ok z)
      → ((s : ℕ) (f : Forest) → Shows m rows s v f → Ok' 0 s f)
      → (n : ℕ) × ((s : ℕ) (f : Forest) → Shows m z.rows s v f → Ok' n s f)
  rounds_shown v h Ok' wider again r start = through_rounds All at_last at_more r 0 start
    where
      All : List (Row B) → List (Row B) → ℕ → Type 0
      All rows end _ = (k : ℕ) → ((s : ℕ) (f : Forest) → Shows m rows s v f → Ok' k s f)
          → (n : ℕ) × ((s : ℕ) (f : Forest) → Shows m end s v f → Ok' n s f)

      at_last : (rows : List (Row B)) → Turned rows rows → All rows rows 1
      at_last rows t k ok = (k, ok)

      after : {rows longer : List (Row B)} (t : Turned rows longer) (k : ℕ)
          → ((s : ℕ) (f : Forest) → Shows m rows s v f → Ok' k s f)
          → (s : ℕ) (f : Forest) (w : Shows m longer s v f)
          → (w.row ∈ rows) ⊎ (w.row ∈ t.paired) → Ok' (suc k) s f
      after t k ok s f w (inl i) = wider k s f (ok s f (shows_at m w i))
      after {rows} t k ok s f w (inr i) =
          let p = from_pairing_shown m laws limit ps t.next t.pairs h (shows_at m w i) in
          subst (λ (e : Forest). Ok' (suc k) s e) (sym p.4)
          (again k rows t.next t.stepped ok s p.0 p.1 p.2 p.3)

      at_more : (rows longer end : List (Row B)) (n : ℕ) → Turned rows longer → All longer end n → All rows end (n + 1)
      at_more rows longer end n t rest k ok =
          rest (suc k) (λ s f w. after t k ok s f w (t.gathers.from w.row w.among))
