-- Accounts: sets of notes, which say what was found on the way to where a formula holds.
use Rattle.std.specs.Prelude.{◌≡◌, ℕ, zero, suc, ◌⊎◌, List, [], ◌∷◌, refl}
use Rattle.flow.specs.Graph.{Graph, successors}
use Rattle.kinds.specs.Consequences.{Value}
use Rattle.kinds.specs.Member.{◌∈◌, here, there}
use Rattle.kinds.specs.Model.{Model}
use Rattle.logic.specs.Formulas.{Formula, predicate, and, or, not, exists, all_next, some_next, all_until, some_until}
use Rattle.logic.specs.Satisfied.{Satisfies}
use Rattle.logic.specs.Trees.{Trees, bare, tree, ◌∪◌, Match}
use Rattle.logic.specs.Valuations.{Valuation, put}

-- a note is a state, a variable, a value, and an account of what was found below it
abbrev pub Account : Type 0
Account = Trees ℕ

-- the same set of notes
infix 40 ◌≋◌
abbrev pub ◌≋◌ : Account → Account → Type 0
x ≋ y = Match (λ (n k : ℕ). n ≡ k) x y

-- one account for each member of a list, united
abbrev pub united : (ts : List ℕ) → ((t : ℕ) → t ∈ ts → Account) → Account
united [] of = bare
united (t ∷ ts) of = of t (here refl) ∪ united ts (λ u i. of u (there i))

-- which accounts a state has
abbrev pub Accounting : Type 1
Accounting = ℕ → Account → Type 0

module _ (g : Graph) where
  -- the union of an account of each successor
  abbrev pub of_each_next : Accounting → Accounting
  of_each_next A s acc =
      (of : (t : ℕ) → t ∈ successors g s → Account)
      × ((t : ℕ) (i : t ∈ successors g s) → A t (of t i))
      × (acc ≋ united (successors g s) of)

  -- an account of one successor
  abbrev pub of_some_next : Accounting → Accounting
  of_some_next A s acc = (t : ℕ) × (t ∈ successors g s) × A t acc

-- the union of an account of each of two
abbrev pub of_both : Accounting → Accounting → Accounting
of_both A B s acc = (x : Account) × (y : Account) × A s x × B s y × (acc ≋ x ∪ y)

-- in at most so many steps: an account of b, or the union of one of a here and one of the same further on
abbrev pub within : (Accounting → Accounting) → Accounting → Accounting → ℕ → Accounting
within next A B zero s acc = B s acc
within next A B (suc k) s acc = B s acc ⊎ of_both A (next (within next A B k)) s acc

-- in finitely many steps
abbrev pub of_until : (Accounting → Accounting) → Accounting → Accounting → Accounting
of_until next A B s acc = (k : ℕ) × within next A B k s acc

module _ {B : Type 0} (m : Model B) (g : Graph) where
  abbrev pub Accounts : Formula → Valuation → Accounting
  Accounts (predicate p xs) v s acc = Satisfies m g (predicate p xs) s v × (acc ≋ bare)
  Accounts (not a) v s acc = Satisfies m g (not a) s v × (acc ≋ bare)
  Accounts (and a b) v s acc = of_both (Accounts a v) (Accounts b v) s acc
  Accounts (or a b) v s acc = Accounts a v s acc ⊎ Accounts b v s acc
  Accounts (exists x a) v s acc =
      (n : ℕ) × (inner : Account) × Value m n × Accounts a (put v x n) s inner × (acc ≋ tree s x n inner bare)
  Accounts (all_next a) v s acc = of_each_next g (Accounts a v) s acc
  Accounts (some_next a) v s acc = of_some_next g (Accounts a v) s acc
  Accounts (all_until a b) v s acc = of_until (of_each_next g) (Accounts a v) (Accounts b v) s acc
  Accounts (some_until a b) v s acc = of_until (of_some_next g) (Accounts a v) (Accounts b v) s acc
