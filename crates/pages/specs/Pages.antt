-- What stands on a page, and how it grows.
use Rattle.std.specs.Prelude.{◌≡◌, ℕ, ◌+◌, ◌≤◌, cond, List, [], ◌∷◌, ◌++◌, length, Some, None, Option, nat_le}
use Rattle.pages.specs.Limit.{limit}

-- what every page shows: at most so many bytes, or none
abbrev pub Within : Option (List ℕ) → Type 0
Within None = Unit {0}
Within (Some xs) = length xs ≤ limit

-- what is shown, with more bytes after it, if there are any: too many once is too many for good
unfoldable pub add : Option (List ℕ) → List ℕ → Option (List ℕ)
add o [] = o
add None (b ∷ bs) = None
add (Some xs) (b ∷ bs) = cond (nat_le (length xs + length (b ∷ bs)) limit) (Some (xs ++ b ∷ bs)) None

-- what is shown after is what was shown before, and then the bytes
abbrev pub Prints : Option (List ℕ) → List ℕ → Option (List ℕ) → Type 0
Prints p bs q = q ≡ add p bs
