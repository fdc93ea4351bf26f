-- Lists of rows that are right for a formula, by what they show: the argument about operators rests on this alone.
use Rattle.std.proofs.Common.{◌≡◌, ℕ, suc, ◌<◌, ◌⊎◌, List, map}
use Rattle.flow.specs.Graph.{Graph, successors}
use Rattle.kinds.specs.Consequences.{Allows, Value}
use Rattle.kinds.specs.Member.{◌∈◌}
use Rattle.kinds.specs.Model.{Model}
use Rattle.rows.specs.Forests.{none, single, union}
use Rattle.rows.specs.declared.forest.Forest.{Forest}
use Rattle.rows.specs.declared.row.Row.{Row}
use Rattle.rows.specs.declared.witness.Witness.{Witness}
use Rattle.logic.specs.Faithful.{Covered, witness}
use Rattle.logic.specs.Formulas.{Formula, predicate, and, or, not, exists, all_next, some_next, all_until, some_until}
use Rattle.logic.specs.Satisfied.{Labelled}
use Rattle.logic.specs.Valuations.{Valuation, Values, put}
use Rattle.logic.proofs.Quantifying.{Bears}
use Rattle.logic.proofs.Shown.{Shows}
use Rattle.logic.proofs.Through.{Showing, Through}

-- the steps of `X` and `N`, from what is shown to what is shown
module _ (g : Graph) where
  -- each successor shows something, united in turn
  abbrev pub each_next : Showing → Showing
  each_next S s h = Through S (successors g s) none h

  -- some successor shows it
  abbrev pub one_next : Showing → Showing
  one_next S s f = (t : ℕ) × (t ∈ successors g s) × S t f

module _ {B : Type 0} (m : Model B) where
  -- what the rows show at a valuation
  abbrev pub shown : List (Row B) → Valuation → Showing
  shown rows v s f = Shows m rows s v f

  module _ (g : Graph) where
    -- the rows show just this of the states of the graph
    pub record Exactly (rows : List (Row B)) (S : Valuation → Showing) : Type 1 where
      pub in_rows : (s : ℕ) (v : Valuation) (f : Forest) → s < g.states → Values m v → S v s f → Shows m rows s v f
      pub from_rows : (s : ℕ) (v : Valuation) (f : Forest) → Values m v → Shows m rows s v f → (s < g.states) × S v s f

    -- the rows of an until: those of b, what a and the step of them show, and nothing that does not come so
    pub record Least (step : Showing → Showing) (ps qs rows : List (Row B)) : Type 1 where
      pub start : (s : ℕ) (v : Valuation) (f : Forest) → Shows m qs s v f → Shows m rows s v f
      pub again : (s : ℕ) (v : Valuation) (f h : Forest) → s < g.states → Values m v → Shows m ps s v f
          → step (shown rows v) s h → Shows m rows s v (union f h)
      pub least : (v : Valuation) → Values m v → (S : ℕ → Showing)
          → ((k s : ℕ) (f : Forest) → S k s f → S (suc k) s f)
          → ((s : ℕ) (f : Forest) → Shows m qs s v f → S 0 s f)
          → ((k s : ℕ) (f h : Forest) → Shows m ps s v f → step (S k) s h → S (suc k) s (union f h))
          → (n : ℕ) × ((s : ℕ) (f : Forest) → Shows m rows s v f → S n s f)

    module _ (ws : List (Witness B)) where
      -- the rows of `Q`: each has one witness, for the values for which a shows the state
      pub record Freed (x : ℕ) (ps rows : List (Row B)) : Type 1 where
        pub in_freed : (n s : ℕ) (v : Valuation) (f : Forest) → Values m v → Value m n → Shows m ps s (put v x n) f
            → (i : ℕ) × Bears m ws s x i × Allows m (witness m ws i).found n × ((witness m ws i).forest ≡ f)
            × Shows m rows s v (single i)
        pub from_freed : (s : ℕ) (v : Valuation) (f : Forest) → Shows m rows s v f
            → (i : ℕ) × Bears m ws s x i × (f ≡ single i)
            × ((n : ℕ) → Allows m (witness m ws i).found n → Shows m ps s (put v x n) (witness m ws i).forest)

      -- the rows of each operator, by rows that are right for its operands
      abbrev pub Right : Formula → List (Row B) → Type 1
      Right (predicate p xs) rows = Exactly rows (λ v s f. Labelled g s p (map v xs) × (f ≡ none))
      Right (and a b) rows =
          (ps : List (Row B)) × (qs : List (Row B)) × Right a ps × Right b qs
          × Exactly rows (λ v s h.
          (f : Forest) × (e : Forest) × Shows m ps s v f × Shows m qs s v e × (h ≡ union f e))
      Right (or a b) rows =
          (ps : List (Row B)) × (qs : List (Row B)) × Right a ps × Right b qs
          × Exactly rows (λ v s f. Shows m ps s v f ⊎ Shows m qs s v f)
      Right (not a) rows =
          (ps : List (Row B)) × Right a ps × Exactly rows (λ v s f. (Covered m ps s v → ⊥) × (f ≡ none))
      Right (exists x a) rows = (ps : List (Row B)) × Right a ps × Freed x ps rows
      Right (all_next a) rows = (ps : List (Row B)) × Right a ps × Exactly rows (λ v. each_next g (shown ps v))
      Right (some_next a) rows = (ps : List (Row B)) × Right a ps × Exactly rows (λ v. one_next g (shown ps v))
      Right (all_until a b) rows =
          (ps : List (Row B)) × (qs : List (Row B)) × Right a ps × Right b qs × Least (each_next g) ps qs rows
      Right (some_until a b) rows =
          (ps : List (Row B)) × (qs : List (Row B)) × Right a ps × Right b qs × Least (one_next g) ps qs rows
