-- Membership of a list.
use Rattle.std.specs.Prelude.{◌≡◌, List, ◌∷◌}

-- a stands in the list: at its head, or further on
infix 45 ◌∈◌
pub data ◌∈◌ {A : Type 0} (a : A) : List A → Type 0 where
  here : {x : A} {xs : List A} → a ≡ x → a ∈ (x ∷ xs)
  there : {x : A} {xs : List A} → a ∈ xs → a ∈ (x ∷ xs)
