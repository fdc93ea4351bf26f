-- What a kind of value means.
use Rattle.std.specs.Prelude.{ℕ, Bool, false, List, Some, None, Option}
use Rattle.std.specs.List.{list_any}

-- A kind whose boxes are of the type B.
pub record Model (B : Type 0) : Type 0 where
  -- which numbers are values
  pub value : ℕ → Bool
  -- which numbers a label may name
  pub nameable : ℕ → Bool
  -- which numbers a box allows
  pub allows : B → ℕ → Bool
  -- the box of one number
  pub one : ℕ → Option B
  -- the box of all values
  pub all : B
  -- the box of the values in both
  pub meet : B → B → Option B
  -- the boxes of what a box leaves out
  pub pieces : B → List B
  -- whether two boxes allow the same
  pub same : B → B → Bool
  -- the most pieces of a box
  pub most : ℕ

-- there is a box, and it allows n
abbrev pub allowed : {B : Type 0} → Model B → Option B → ℕ → Bool
allowed m None n = false
allowed m (Some b) n = m.allows b n

-- one of the boxes allows n
abbrev pub together : {B : Type 0} → Model B → List B → ℕ → Bool
together m bs n = list_any (λ b. m.allows b n) bs
