-- Forests that are shown at each of several states, united in turn.
use Rattle.std.proofs.Common.{ℕ, List, [], ◌∷◌, sym, refl, subst}
use Rattle.kinds.specs.Member.{◌∈◌, here, there}
use Rattle.kinds.specs.Model.{Model}
use Rattle.rows.specs.Forests.{union}
use Rattle.rows.specs.declared.forest.Forest.{Forest}
use Rattle.rows.specs.declared.row.Row.{Row}
use Rattle.logic.specs.Valuations.{Valuation}
use Rattle.logic.proofs.Shown.{Shows}

-- Which forests are shown where, at a fixed valuation: by a list of rows, or by an operator.
abbrev pub Showing : Type 1
Showing = ℕ → Forest → Type 0

-- the forest f united in turn with a forest shown at each of several states comes to h
pub data Through (S : Showing) : List ℕ → Forest → Forest → Type 0 where
  over : {f : Forest} → Through S [] f f
  turn : {t : ℕ} {ts : List ℕ} {f e h : Forest} → S t e → Through S ts (union f e) h → Through S (t ∷ ts) f h

-- where something is shown at each of several states, forests can be united in turn
pub through_all : (S : Showing) (ts : List ℕ) → ((t : ℕ) → t ∈ ts → (f : Forest) × S t f) → (f : Forest)
    → (h : Forest) × Through S ts f h
through_all S [] each f = (f, over)
through_all S (t ∷ ts) each f =
    let a = each t (here refl) in
    let r = through_all S ts (λ u i. each u (there i)) (union f a.0) in
    (r.0, turn a.1 r.1)

-- and where they were, something is shown at each
pub through_each : (S : Showing) {ts : List ℕ} {f h : Forest} → Through S ts f h → (t : ℕ) → t ∈ ts
    → (e : Forest) × S t e
through_each S over t i = elim i [ ]
through_each S (turn {t = u} {ts = ts} {e = e} w rest) t i = step (through_each S rest) i
  where
    step : ((t : ℕ) → t ∈ ts → (e : Forest) × S t e) → t ∈ (u ∷ ts) → (e : Forest) × S t e
    step rec (here q) = (e, subst (λ (k : ℕ). S k e) (sym q) w)
    step rec (there j) = rec t j

-- what is shown in one way may be shown in another
pub through_map : (S T : Showing) → ((t : ℕ) (f : Forest) → S t f → T t f) → {ts : List ℕ} {f h : Forest}
    → Through S ts f h → Through T ts f h
through_map S T to over = over
through_map S T to (turn {t = t} {e = e} w rest) = turn (to t e w) (through_map S T to rest)

-- forests that the rows of a list show, at a valuation
abbrev pub Turns : {B : Type 0} → Model B → List (Row B) → Valuation → List ℕ → Forest → Forest → Type 0
Turns m rows v = Through (λ t f. Shows m rows t v f)
