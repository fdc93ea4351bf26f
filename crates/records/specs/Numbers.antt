-- What a number is in a text.
use Rattle.std.specs.List.{fold, list_all}
use Rattle.std.specs.Prelude.{ℕ, ◌+◌, ◌-◌, ◌*◌, Bool, cond, ◌&&◌, List, [], ◌∷◌, Some, None, Option, ◌==◌, nat_le}

-- the largest number
abbrev pub largest : ℕ
largest = 4294967295

-- a byte from `0` to `9`
abbrev pub digit : ℕ → Bool
digit b = nat_le 48 b && nat_le b 57

-- each byte is a digit
abbrev pub digits : List ℕ → Bool
digits text = list_all digit text

-- what digits say to base ten, after digits that said n
abbrev pub value : ℕ → List ℕ → ℕ
value n text = fold (λ m b. m * 10 + (b - 48)) n text

-- the same, where these are digits and what they say is not too large
abbrev pub said : ℕ → List ℕ → Option ℕ
said n text = cond (digits text && nat_le (value n text) largest) (Some (value n text)) None

-- a number is one digit, or several of which the first is no `0`
abbrev pub number_of : List ℕ → Option ℕ
number_of [] = None
number_of (b ∷ []) = said 0 (b ∷ [])
number_of (b ∷ c ∷ rest) = cond (b == 48) None (said 0 (b ∷ c ∷ rest))
