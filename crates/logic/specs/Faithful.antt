-- What it is for rows and witnesses to be faithful to a graph and a formula.
use Rattle.std.specs.Prelude.{◌≡◌, ℕ, zero, suc, ◌<◌, cond, ◌↔◌, List, length, slice_index_or}
use Rattle.flow.specs.Graph.{Graph}
use Rattle.kinds.specs.Consequences.{Allows}
use Rattle.kinds.specs.Member.{◌∈◌}
use Rattle.kinds.specs.Model.{Model}
use Rattle.rows.specs.Forests.{has}
use Rattle.rows.specs.Rows.{box}
use Rattle.rows.specs.Witnesses.{blank_witness}
use Rattle.rows.specs.declared.forest.Forest.{Forest}
use Rattle.rows.specs.declared.row.Row.{Row}
use Rattle.rows.specs.declared.witness.Witness.{Witness}
use Rattle.logic.specs.Accounts.{Account, Accounts, ◌≋◌}
use Rattle.logic.specs.Formulas.{Formula}
use Rattle.logic.specs.Satisfied.{Satisfies}
use Rattle.logic.specs.Trees.{Trees, bare, tree, Match}
use Rattle.logic.specs.Valuations.{Valuation, Values}

module _ {B : Type 0} (m : Model B) where
  -- a row covers a state and a valuation when the states agree and each box allows the value given (where a row has no
  -- box, every value is allowed)
  pub record Covers (r : Row B) (s : ℕ) (v : Valuation) : Type 0 where
    pub state : r.state ≡ s
    pub allowed : (x : ℕ) → Allows m (box m r x) (v x)

  -- some row of a list does
  abbrev pub Covered : List (Row B) → ℕ → Valuation → Type 0
  Covered rows s v = (r : Row B) × (r ∈ rows) × Covers r s v

  module _ (witnesses : List (Witness B)) where
    -- the witness of a number
    abbrev pub witness : ℕ → Witness B
    witness i = slice_index_or witnesses i (blank_witness m)

    -- the trees of those witnesses below n that are in the forest; of a witness's own forest those before it count
    abbrev pub trees_below : ℕ → Forest → Trees B
    trees_below zero f = bare
    trees_below (suc i) f =
        cond (has f i)
        (tree (witness i).state (witness i).variable (witness i).found (trees_below i (witness i).forest)
        (trees_below i f))
        (trees_below i f)

    -- the trees that a forest stands for
    abbrev pub trees : Forest → Trees B
    trees f = trees_below (length witnesses) f

  -- a filling makes of each tree one note, with a value that its box allows and a filling of what is below it
  pub data Filling : Trees B → Account → Type 0 where
    empty : Filling bare bare
    note : {s x n : ℕ} {b : B} {below others : Trees B} {inner rest : Account} → Allows m b n → Filling below inner
        → Filling others rest → Filling (tree s x b below others) (tree s x n inner rest)

  -- an account matches trees of witnesses when values are allowed by boxes
  abbrev pub Matches : Trees B → Account → Type 0
  Matches f acc = Match (λ (b : B) (n : ℕ). Allows m b n) f acc

-- rows and witnesses are faithful to the formula φ on the graph g
pub record Faithful {B : Type 0} (m : Model B) (g : Graph) (φ : Formula)
    (witnesses : List (Witness B)) (rows : List (Row B)) : Type 0 where
  -- each row is at a state of the graph
  pub inside : (r : Row B) → r ∈ rows → r.state < g.states
  -- a state and a valuation satisfy the formula exactly when a row covers them
  pub coverage : (s : ℕ) (v : Valuation) → s < g.states → Values m v → Satisfies m g φ s v ↔ Covered m rows s v
  -- where a row covers, every set of notes that is a filling of its witnesses is an account of the formula
  pub fillings : (r : Row B) → r ∈ rows → (s : ℕ) (v : Valuation) → Values m v → Covers m r s v
      → (filling acc : Account) → Filling m (trees m witnesses r.forest) filling → acc ≋ filling
      → Accounts m g φ v s acc
  -- every account of the formula is matched by the witnesses of a row that covers
  pub accounts : (s : ℕ) (v : Valuation) → s < g.states → Values m v → (acc : Account) → Accounts m g φ v s acc
      → (r : Row B) × (r ∈ rows) × Covers m r s v × Matches m (trees m witnesses r.forest) acc
