-- What the laws of a kind give, in the words of those who build on them.
use Rattle.std.specs.Prelude.{◌≡◌, ℕ, T, ◌↔◌, Some, None}
use Rattle.kinds.specs.Member.{◌∈◌}
use Rattle.kinds.specs.Model.{Model}

-- n is a value of the kind
abbrev pub Value : {B : Type 0} → Model B → ℕ → Type 0
Value m n = T (m.value n)

-- a label may name n
abbrev pub Nameable : {B : Type 0} → Model B → ℕ → Type 0
Nameable m n = T (m.nameable n)

-- the box b allows n
abbrev pub Allows : {B : Type 0} → Model B → B → ℕ → Type 0
Allows m b n = T (m.allows b n)

-- same says yes of the boxes a and b
abbrev pub Same : {B : Type 0} → Model B → B → B → Type 0
Same m a b = T (m.same a b)

pub record Consequences {B : Type 0} (m : Model B) : Type 0 where
  -- a nameable number is a value
  pub named : (n : ℕ) → Nameable m n → Value m n
  -- a box allows values only
  pub within : (b : B) (n : ℕ) → Allows m b n → Value m n
  -- a box allows at least one value
  pub filled : (b : B) → (n : ℕ) × Allows m b n
  -- a nameable number has a box, which allows that number alone
  pub of_one : (n : ℕ) → Nameable m n → (b : B) × (m.one n ≡ Some b) × ((k : ℕ) → Allows m b k ↔ (k ≡ n))
  -- any other number has none
  pub of_other : (n : ℕ) → (Nameable m n → ⊥) → m.one n ≡ None
  -- the box of all values allows exactly the values
  pub of_all : (n : ℕ) → Allows m m.all n ↔ Value m n
  -- where two boxes meet in none, no value is in both
  pub of_none : (a b : B) → m.meet a b ≡ None → (n : ℕ) → Allows m a n → Allows m b n → ⊥
  -- where no value is in both, two boxes meet in none
  pub of_apart : (a b : B) → ((n : ℕ) → Allows m a n → Allows m b n → ⊥) → m.meet a b ≡ None
  -- where two boxes meet in a box, it allows exactly the values in both
  pub of_meet : (a b c : B) → m.meet a b ≡ Some c → (n : ℕ) → Allows m c n ↔ (Allows m a n × Allows m b n)
  -- a value is not in a box exactly where a piece of the box allows it
  pub of_pieces :
      (b : B) (n : ℕ) → Value m n → (Allows m b n → ⊥) ↔ ((c : B) × (c ∈ m.pieces b) × Allows m c n)
  -- two boxes are the same exactly where they allow the same values
  pub of_same : (a b : B) → Same m a b ↔ ((n : ℕ) → Allows m a n ↔ Allows m b n)
  -- a box is the same as itself
  pub same_refl : (a : B) → Same m a a
  -- in either order
  pub same_sym : (a b : B) → Same m a b → Same m b a
  -- and as what is the same as a box that is the same as it
  pub same_trans : (a b c : B) → Same m a b → Same m b c → Same m a c
