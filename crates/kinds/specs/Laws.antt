-- The laws that every kind of value keeps.
use Rattle.std.specs.Prelude.{◌≡◌, ℕ, ◌≤◌, true, not, ◌&&◌, ◌↔◌, length, is_some, ◌==◌}
use Rattle.kinds.specs.Model.{Model, allowed, together}

pub record Laws {B : Type 0} (m : Model B) : Type 0 where
  -- a nameable number is a value
  pub nameable_value : (n : ℕ) → m.nameable n ≡ true → m.value n ≡ true
  -- a box allows values only
  pub allows_value : (b : B) (n : ℕ) → m.allows b n ≡ true → m.value n ≡ true
  -- a box allows at least one value
  pub allows_some : (b : B) → (n : ℕ) × (m.allows b n ≡ true)
  -- one gives none exactly where the number is not nameable
  pub one_nameable : (n : ℕ) → is_some (m.one n) ≡ m.nameable n
  -- the box of one number allows that number alone
  pub one_allows : (n k : ℕ) → m.nameable n ≡ true → allowed m (m.one n) k ≡ (k == n)
  -- the box of all values allows exactly the values
  pub all_allows : (n : ℕ) → m.allows m.all n ≡ m.value n
  -- two boxes meet in a box that allows exactly the values in both, or in none where there is no such value
  pub meet_allows : (a b : B) (n : ℕ) → allowed m (m.meet a b) n ≡ (m.allows a n && m.allows b n)
  -- the pieces of a box together allow exactly the values that the box does not
  pub pieces_allow : (b : B) (n : ℕ) → together m (m.pieces b) n ≡ (m.value n && not (m.allows b n))
  -- a box has at most that many pieces
  pub pieces_most : (b : B) → length (m.pieces b) ≤ m.most
  -- same says yes exactly where both boxes allow the same values
  pub same_allows : (a b : B) → (m.same a b ≡ true) ↔ ((n : ℕ) → m.allows a n ≡ m.allows b n)
