-- The numbers that are held in place.
use Rattle.std.specs.Prelude.{◌≡◌, ℕ, ◌<◌, List, take, length, Ok, Err, Result}
use Rattle.stores.specs.declared.numbers.Numbers.{Numbers}
use Rattle.stores.specs.declared.numbers.TooMany.{TooMany}

-- the first of the places, as many as count
abbrev pub listed : {N : ℕ} → Numbers N → List ℕ
listed a = take a.count a.places

-- just these numbers, or that they are more than there are places
abbrev pub Copies : {N : ℕ} → List ℕ → Result (Numbers N) TooMany → Type 0
Copies numbers (Ok held) = listed held ≡ numbers
Copies {N} numbers (Err _) = N < length numbers
