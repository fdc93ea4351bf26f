-- Fillings: every filling of what rows show is an account of the formula for which they are right.
use Rattle.std.proofs.Common.{◌≡◌, ℕ, zero, suc, List, length, ap, ◌∙◌, subst, inl, inr}
use Rattle.flow.specs.Facts.{ClosedGraph}
use Rattle.flow.specs.Graph.{Graph}
use Rattle.kinds.specs.Consequences.{Consequences}
use Rattle.kinds.specs.Model.{Model}
use Rattle.rows.specs.Forests.{union}
use Rattle.rows.specs.declared.forest.Forest.{Forest}
use Rattle.rows.specs.declared.row.Row.{Row}
use Rattle.rows.specs.declared.witness.Witness.{Witness}
use Rattle.logic.specs.Accounts.{Account, Accounting, Accounts, of_until, within}
use Rattle.logic.specs.Faithful.{Filling, trees, witness}
use Rattle.logic.specs.Formulas.{Formula, predicate, and, or, not, exists, all_next, some_next, all_until, some_until}
use Rattle.logic.specs.Trees.{Trees, bare, tree}
use Rattle.logic.specs.Valuations.{Valuation, Values, put}
use Rattle.logic.proofs.Boxes.{values_put}
use Rattle.logic.proofs.Coverage.{decides}
use Rattle.logic.proofs.Grounded.{Grounded, trees-single}
use Rattle.logic.proofs.Pacing.{Pace, Steady, filling_none, pace_each, pace_one}
use Rattle.logic.proofs.Right.{Least, Right}
use Rattle.logic.proofs.SameNotes.{≋_eq, ≋_sym, ≋_trans}
use Rattle.logic.proofs.Shown.{Shows}
use Rattle.logic.proofs.Splitting.{filling_tree, split_filling}
use Rattle.logic.proofs.Through.{Showing}

module _ {B : Type 0} (m : Model B) (g : Graph) (ws : List (Witness B)) where
  -- a set with the notes of an account is an account
  module _ {step : Showing → Showing} {next : Accounting → Accounting} (pace : Pace m ws g step next) where
    -- in so many steps
    within_same : (A C : Accounting) → Steady C → (k : ℕ) → Steady (within next A C k)
    within_same A C steady zero s x y e w = steady s x y e w
    within_same A C steady (suc k) s x y e (inl w) = inl (steady s x y e w)
    within_same A C steady (suc k) s x y e (inr w) = inr (w.0, w.1, w.2, w.3, ≋_trans y x _ (≋_sym x y e) w.4)

    -- an account in so many steps is one in a step more
    within_more : (A C : Accounting) (k s : ℕ) (x : Account) → within next A C k s x → within next A C (suc k) s x
    within_more A C zero s x w = inl w
    within_more A C (suc k) s x (inl w) = inl w
    within_more A C (suc k) s x (inr w) =
        inr (
          w.0,
          w.1,
          w.2,
          pace.next_map (within next A C k) (within next A C (suc k)) (within_more A C k) s w.1 w.3,
          w.4,
        )

  -- for every formula
  pub steady : (φ : Formula) (v : Valuation) → Steady (Accounts m g φ v)
  steady (predicate p xs) v s x y e w = (w.0, ≋_trans y x bare (≋_sym x y e) w.1)
  steady (and a b) v s x y e w = (w.0, w.1, w.2, w.3, ≋_trans y x _ (≋_sym x y e) w.4)
  steady (or a b) v s x y e (inl w) = inl (steady a v s x y e w)
  steady (or a b) v s x y e (inr w) = inr (steady b v s x y e w)
  steady (not a) v s x y e w = (w.0, ≋_trans y x bare (≋_sym x y e) w.1)
  steady (exists z a) v s x y e w = (w.0, w.1, w.2, w.3, ≋_trans y x _ (≋_sym x y e) w.4)
  steady (all_next a) v s x y e w = (pace_each m ws g).next_same (Accounts m g a v) (steady a v) s x y e w
  steady (some_next a) v s x y e w = (pace_one m ws g).next_same (Accounts m g a v) (steady a v) s x y e w
  steady (all_until a b) v s x y e w =
      (w.0, within_same (pace_each m ws g) (Accounts m g a v) (Accounts m g b v) (steady b v) w.0 s x y e w.1)
  steady (some_until a b) v s x y e w =
      (w.0, within_same (pace_one m ws g) (Accounts m g a v) (Accounts m g b v) (steady b v) w.0 s x y e w.1)

  -- every filling of what the rows show is an account
  abbrev pub Fills : Formula → List (Row B) → Type 0
  Fills φ rows = (s : ℕ) (v : Valuation) (f : Forest) → Values m v → Shows m rows s v f → (acc : Account)
      → Filling m (trees m ws f) acc → Accounts m g φ v s acc

  -- both untils, by their step
  fills_until : {step : Showing → Showing} {next : Accounting → Accounting} → Pace m ws g step next → (a b : Formula)
      (ps qs rows : List (Row B)) → Fills a ps → Fills b qs → Least m g step ps qs rows → (s : ℕ) (v : Valuation)
      (f : Forest) → Values m v → Shows m rows s v f → (acc : Account) → Filling m (trees m ws f) acc
      → of_until next (Accounts m g a v) (Accounts m g b v) s acc
  fills_until {step} {next} pace a b ps qs rows fa fb until s v f h w acc k =
      let r = until.least v h Filled wider start again in (r.0, r.1 s f w acc k)
    where
      Filled : ℕ → Showing
      Filled k t e = (acc : Account) → Filling m (trees m ws e) acc
          → within next (Accounts m g a v) (Accounts m g b v) k t acc

      wider : (k t : ℕ) (e : Forest) → Filled k t e → Filled (suc k) t e
      wider k t e w acc i = within_more pace (Accounts m g a v) (Accounts m g b v) k t acc (w acc i)

      start : (t : ℕ) (e : Forest) → Shows m qs t v e → Filled 0 t e
      start t e w acc i = fb t v e h w acc i

      again : (k t : ℕ) (e i : Forest) → Shows m ps t v e → step (Filled k) t i → Filled (suc k) t (union e i)
      again k t e i w on acc fill =
          let p = split_filling m ws (length ws) e i acc fill in
          let further = pace.fills (Filled k) (within next (Accounts m g a v) (Accounts m g b v) k) (λ u o x. x) t i on
          p.1 p.3 in
          inr (p.0, p.1, fa t v e h w p.0 p.2, further, p.4)

  module _ (laws : Consequences m) (closed : ClosedGraph g) (grounded : Grounded m ws) where
    -- operator by operator
    pub fills : (φ : Formula) (rows : List (Row B)) → Right m g ws φ rows → Fills φ rows
    fills (predicate p xs) rows r s v f h w acc k =
        let from = (r.from_rows s v f h w).1 in
        (from.0, ≋_eq (filling_none m ws (subst (λ (e : Forest). Filling m (trees m ws e) acc) from.1 k)))
    fills (and a b) rows r s v f h w acc k =
        let from = (r.4.from_rows s v f h w).1 in
        let p = split_filling m ws (length ws) from.0 from.1 acc
        (subst (λ (e : Forest). Filling m (trees m ws e) acc) from.4 k) in (
          p.0,
          p.1,
          fills a r.0 r.2 s v from.0 h from.2 p.0 p.2,
          fills b r.1 r.3 s v from.1 h from.3 p.1 p.3,
          p.4,
        )
    fills (or a b) rows r s v f h w acc k = elim (r.4.from_rows s v f h w).1 [
      | inl u ↦ inl (fills a r.0 r.2 s v f h u acc k)
      | inr u ↦ inr (fills b r.1 r.3 s v f h u acc k)
    ]
    fills (not a) rows r s v f h w acc k =
        let from = r.2.from_rows s v f h w in
        let sat = (decides m laws g ws closed (not a) rows r s v from.0 h).1 (f, w) in
        (sat, ≋_eq (filling_none m ws (subst (λ (e : Forest). Filling m (trees m ws e) acc) from.1.1 k)))
    fills (exists x a) rows r s v f h w acc k =
        let from = r.2.from_freed s v f w in
        let i = from.0 in
        let bears = from.1 in
        let u = witness m ws i in
        let whole = subst (λ (t : Trees B). Filling m t acc)
        (ap (trees m ws) from.2 ∙ trees-single m ws grounded i bears.below) k in
        let one = filling_tree m u.state u.variable u.found (trees m ws u.forest) whole in
        let n = one.0 in
        let value = laws.within u.found n one.2 in
        let inner = fills a r.0 r.1 s (put v x n) u.forest (values_put m v x n h value) (from.3 n one.2)
        one.1 one.3 in
        let same : acc ≡ tree s x n one.1 bare =
        one.4 ∙ ap (λ (t : ℕ). tree t u.variable n one.1 bare) bears.state
        ∙ ap (λ (y : ℕ). tree s y n one.1 bare) bears.variable in
        (n, one.1, value, inner, ≋_eq same)
    fills (all_next a) rows r s v f h w acc k =
        (pace_each m ws g).fills (λ t e. Shows m r.0 t v e) (Accounts m g a v)
        (λ t e u x i. fills a r.0 r.1 t v e h u x i) s f (r.2.from_rows s v f h w).1 acc k
    fills (some_next a) rows r s v f h w acc k =
        (pace_one m ws g).fills (λ t e. Shows m r.0 t v e) (Accounts m g a v)
        (λ t e u x i. fills a r.0 r.1 t v e h u x i) s f (r.2.from_rows s v f h w).1 acc k
    fills (all_until a b) rows r s v f h w acc k =
        fills_until (pace_each m ws g) a b r.0 r.1 rows (fills a r.0 r.2) (fills b r.1 r.3) r.4
        s v f h w acc k
    fills (some_until a b) rows r s v f h w acc k =
        fills_until (pace_one m ws g) a b r.0 r.1 rows (fills a r.0 r.2) (fills b r.1 r.3) r.4
        s v f h w acc k
