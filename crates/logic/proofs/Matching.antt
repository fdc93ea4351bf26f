-- Accounts: every account of a formula matches something that rows show which are right for it.
use Rattle.std.proofs.Common.{◌≡◌, ℕ, zero, suc, ◌<◌, List, length, sym, refl, ap, ◌∙◌, subst, inl, inr}
use Rattle.flow.specs.Facts.{ClosedGraph}
use Rattle.flow.specs.Graph.{Graph}
use Rattle.kinds.specs.Consequences.{Allows, Consequences}
use Rattle.kinds.specs.Model.{Model}
use Rattle.rows.specs.Forests.{none, single, union}
use Rattle.rows.specs.declared.forest.Forest.{Forest}
use Rattle.rows.specs.declared.row.Row.{Row}
use Rattle.rows.specs.declared.witness.Witness.{Witness}
use Rattle.logic.specs.Accounts.{Account, Accounting, Accounts, ◌≋◌, within}
use Rattle.logic.specs.Faithful.{Covered, Matches, trees, witness}
use Rattle.logic.specs.Formulas.{Formula, predicate, and, or, not, exists, all_next, some_next, all_until, some_until}
use Rattle.logic.specs.Trees.{Trees, bare, tree, ◌∪◌}
use Rattle.logic.specs.Valuations.{Valuation, Values, put}
use Rattle.logic.proofs.Boxes.{values_put}
use Rattle.logic.proofs.Coverage.{decides}
use Rattle.logic.proofs.Covering.{shown_of}
use Rattle.logic.proofs.ForestTrees.{match_union}
use Rattle.logic.proofs.Grounded.{Grounded, trees-single}
use Rattle.logic.proofs.Pacing.{Fit, Pace, fit_none, fit_same, pace_each, pace_one}
use Rattle.logic.proofs.Right.{Exactly, Least, Right, shown}
use Rattle.logic.proofs.SameNotes.{≋_sym}
use Rattle.logic.proofs.Shown.{Shows}
use Rattle.logic.proofs.Through.{Showing}
use Rattle.logic.proofs.TreeSets.{match_tree}
use Rattle.logic.proofs.Walking.{stays}

module _ {B : Type 0} (m : Model B) (g : Graph) (ws : List (Witness B)) where
  -- the account matches a forest that the rows show
  abbrev pub Told : List (Row B) → ℕ → Valuation → Account → Type 0
  Told rows s v acc = (f : Forest) × Shows m rows s v f × Fit m ws f acc

  -- every account is told
  abbrev pub Tells : Formula → List (Row B) → Type 0
  Tells φ rows = (s : ℕ) (v : Valuation) → s < g.states → Values m v → (acc : Account) → Accounts m g φ v s acc
      → Told rows s v acc

  -- what matches each of two forests, united, matches their union
  both_fit : (f e : Forest) (x y acc : Account) → Fit m ws f x → Fit m ws e y → acc ≋ x ∪ y → Fit m ws (union f e) acc
  both_fit f e x y acc p q same =
      fit_same m ws (union f e) (x ∪ y) acc (match_union m ws (λ b n. Allows m b n) (length ws) f e x y p q)
      (≋_sym acc (x ∪ y) same)

  module _ (closed : ClosedGraph g) where
    -- both untils, by their step
    tells_until : {step : Showing → Showing} {next : Accounting → Accounting} → Pace m ws g step next → (a b : Formula)
        (ps qs rows : List (Row B)) → Tells a ps → Tells b qs → Least m g step ps qs rows → (v : Valuation) → Values m v
        → (k s : ℕ) → s < g.states → (acc : Account)
        → within next (Accounts m g a v) (Accounts m g b v) k s acc → Told rows s v acc
    tells_until pace a b ps qs rows ta tb until v h zero s l acc w =
        let r = tb s v l h acc w in (r.0, until.start s v r.0 r.1, r.2)
    tells_until pace a b ps qs rows ta tb until v h (suc k) s l acc (inl w) =
        let r = tb s v l h acc w in (r.0, until.start s v r.0 r.1, r.2)
    tells_until {step} {next} pace a b ps qs rows ta tb until v h (suc k) s l acc (inr w) =
        let p = ta s v l h w.0 w.2 in
        let A = within next (Accounts m g a v) (Accounts m g b v) k in
        let on = pace.next_to (λ t. t < g.states) (stays closed) A s w.1 w.3 in
        let q = pace.fits (shown m rows v) (λ t y. (t < g.states) × A t y)
        (λ t x i. tells_until pace a b ps qs rows ta tb until v h k t i.0 x i.1) s w.1 on in (
          union p.0 q.0,
          until.again s v p.0 q.0 l h p.1 q.1,
          both_fit p.0 q.0 w.0 w.1 acc p.2 q.2 w.4,
        )

    -- the rows of a step, by the rows of what it leads to
    tells_next : {step : Showing → Showing} {next : Accounting → Accounting} → Pace m ws g step next → (a : Formula)
        (ps rows : List (Row B)) → Tells a ps → Exactly m g rows (λ v. step (shown m ps v)) → (s : ℕ) (v : Valuation)
        → s < g.states → Values m v → (acc : Account) → next (Accounts m g a v) s acc → Told rows s v acc
    tells_next pace a ps rows ta exactly s v l h acc w =
        let on = pace.next_to (λ t. t < g.states) (stays closed) (Accounts m g a v) s acc w in
        let r = pace.fits (shown m ps v) (λ t y. (t < g.states) × Accounts m g a v t y)
        (λ t x i. ta t v i.0 h x i.1) s acc on in
        (r.0, exactly.in_rows s v r.0 l h r.1, r.2)

    module _ (laws : Consequences m) (grounded : Grounded m ws) where
      -- where a formula has the empty account alone, rows that show the state with no witnesses tell it
      tells_empty : (rows : List (Row B)) (s : ℕ) (v : Valuation) (acc : Account) → Shows m rows s v none → acc ≋ bare
          → Told rows s v acc
      tells_empty rows s v acc w e = (none, w, fit_same m ws none bare acc (fit_none m ws) (≋_sym acc bare e))

      -- operator by operator
      pub tells : (φ : Formula) (rows : List (Row B)) → Right m g ws φ rows → Tells φ rows
      tells (predicate p xs) rows r s v l h acc w =
          tells_empty rows s v acc (r.in_rows s v none l h (w.0, refl)) w.1
      tells (and a b) rows r s v l h acc w =
          let p = tells a r.0 r.2 s v l h w.0 w.2 in
          let q = tells b r.1 r.3 s v l h w.1 w.3 in (
            union p.0 q.0,
            r.4.in_rows s v _ l h (p.0, q.0, p.1, q.1, refl),
            both_fit p.0 q.0 w.0 w.1 acc p.2 q.2 w.4,
          )
      tells (or a b) rows r s v l h acc (inl w) =
          let p = tells a r.0 r.2 s v l h acc w in (p.0, r.4.in_rows s v p.0 l h (inl p.1), p.2)
      tells (or a b) rows r s v l h acc (inr w) =
          let p = tells b r.1 r.3 s v l h acc w in (p.0, r.4.in_rows s v p.0 l h (inr p.1), p.2)
      tells (not a) rows r s v l h acc w =
          let no_cover : Covered m r.0 s v → ⊥ =
          λ c. w.0 ((decides m laws g ws closed a r.0 r.1 s v l h).1 (shown_of m c)) in
          tells_empty rows s v acc (r.2.in_rows s v none l h (no_cover, refl)) w.1
      tells (exists x a) rows r s v l h acc w =
          let n = w.0 in
          let p = tells a r.0 r.1 s (put v x n) l (values_put m v x n h w.2) w.1 w.3 in
          let i = r.2.in_freed n s v p.0 h w.2 p.1 in
          let u = witness m ws i.0 in
          let bears = i.1 in
          let below = subst (λ (e : Forest). Fit m ws e w.1) (sym i.3) p.2 in
          let one = match_tree (λ b k. Allows m b k) s x u.found n (trees m ws u.forest) w.1 i.2 below in
          let same : trees m ws (single i.0) ≡ tree s x u.found (trees m ws u.forest) bare =
          trees-single m ws grounded i.0 bears.below
          ∙ ap (λ (t : ℕ). tree t u.variable u.found (trees m ws u.forest) bare) bears.state
          ∙ ap (λ (y : ℕ). tree s y u.found (trees m ws u.forest) bare) bears.variable in (
            single i.0,
            i.4,
            fit_same m ws (single i.0) (tree s x n w.1 bare) acc
                (subst (λ (t : Trees B). Matches m t (tree s x n w.1 bare)) (sym same) one)
                (≋_sym acc (tree s x n w.1 bare) w.4),
          )
      tells (all_next a) rows r s v l h acc w =
          tells_next (pace_each m ws g) a r.0 rows (tells a r.0 r.1) r.2 s v l h acc w
      tells (some_next a) rows r s v l h acc w =
          tells_next (pace_one m ws g) a r.0 rows (tells a r.0 r.1) r.2 s v l h acc w
      tells (all_until a b) rows r s v l h acc w =
          tells_until (pace_each m ws g) a b r.0 r.1 rows (tells a r.0 r.2) (tells b r.1 r.3) r.4
          v h w.0 s l acc w.1
      tells (some_until a b) rows r s v l h acc w =
          tells_until (pace_one m ws g) a b r.0 r.1 rows (tells a r.0 r.2) (tells b r.1 r.3) r.4
          v h w.0 s l acc w.1
