-- What is printed of a text, kept within the limit.
use Rattle.std.proofs.Common.{◌≡◌, ℕ, cond, List, [], ◌∷◌, length, Some, None, nat_le, refl, ap, zero-add}
use Rattle.pages.specs.Limit.{limit}
use Rattle.pages.specs.Pages.{add}

-- an empty page has all of a text that is not too long
pub add_empty : (t : List ℕ) → add (Some []) t ≡ cond (nat_le (length t) limit) (Some t) None
unfolding add
add_empty [] = refl
add_empty (b ∷ bs) = ap (λ n. cond (nat_le n limit) (Some (b ∷ bs)) None) (zero-add (length (b ∷ bs)))
