-- The letters of the calls.
use Rattle.std.specs.Prelude.{ℕ, true, false, List, [], ◌∷◌, None, Option, ◌==◌}
use Rattle.std.specs.List.{find}
use Rattle.records.specs.Limits.{most_fields}
use Rattle.records.specs.declared.letter.Letter.{Letter}
use Rattle.records.specs.declared.letter.Letter.TheVariants.{State, Edge, Label, Close, Line, Check}
use Rattle.records.specs.declared.letter.Shape.{Shape}

-- the bytes of S, E, L, C, F and K
abbrev pub byte_of : Letter → ℕ
byte_of State = 83
byte_of Edge = 69
byte_of Label = 76
byte_of Close = 67
byte_of Line = 70
byte_of Check = 75

-- the least and the most fields of a record with the letter, and whether its second field is an operator
abbrev pub shape : Letter → Shape
shape State = record { least = 1; most = 1; operator = false }
shape Edge = record { least = 3; most = 3; operator = false }
shape Label = record { least = 3; most = most_fields; operator = false }
shape Close = record { least = 1; most = 1; operator = false }
shape Line = record { least = 3; most = most_fields; operator = true }
shape Check = record { least = 2; most = 2; operator = false }

-- all letters
abbrev pub letters : List Letter
letters = State ∷ Edge ∷ Label ∷ Close ∷ Line ∷ Check ∷ []

-- the letter that a field is: one byte, and that of a letter
abbrev pub letter_of : List ℕ → Option Letter
letter_of [] = None
letter_of (b ∷ []) = find (λ letter. b == byte_of letter) letters
letter_of (b ∷ c ∷ rest) = None
