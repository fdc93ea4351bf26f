-- Tests over labels as they are held, and as the graph has them.
use Rattle.std.proofs.Common.{◌≡◌, Bool, ◌&&◌, List, [], ◌∷◌, map, refl, ap}
use Rattle.std.specs.List.{list_all}

-- each mapped element passes where each element does
pub every_map : {A C : Type 0} (p : C → Bool) (f : A → C) (xs : List A) → list_all (λ x. p (f x)) xs ≡ list_all p (map f xs)
every_map p f [] = refl
every_map p f (x ∷ xs) = ap (λ b. p (f x) && b) (every_map p f xs)
