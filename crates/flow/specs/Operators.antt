-- The operators of formula lines: the character of each, and how many numbers a line of it has.
use Rattle.std.specs.Prelude.{ℕ, ◌+◌, Bool, ◌&&◌, List, [], ◌∷◌, length, Option, ◌==◌, nat_le}
use Rattle.flow.specs.Limits.{most_arguments}
use Rattle.std.specs.List.{find}
use Rattle.flow.specs.declared.operator.Operator.{Operator}
use Rattle.flow.specs.declared.operator.Operator.TheVariants.{
  AllNext,
  AllUntil,
  And,
  Exists,
  Not,
  Or,
  Predicate,
  SomeNext,
  SomeUntil,
}
use Rattle.flow.specs.declared.operator.Shape.{Shape}

-- `P & | ! Q X N A U`
abbrev pub character : Operator → ℕ
character Predicate = 80
character And = 38
character Or = 124
character Not = 33
character Exists = 81
character AllNext = 88
character SomeNext = 78
character AllUntil = 65
character SomeUntil = 85

-- the fewest numbers of a line
abbrev pub fewest : Operator → ℕ
fewest Predicate = 1
fewest And = 2
fewest Or = 2
fewest Not = 1
fewest Exists = 2
fewest AllNext = 1
fewest SomeNext = 1
fewest AllUntil = 2
fewest SomeUntil = 2

-- the most numbers of a line: after its predicate `P` has variables, each other operator has a fixed count
abbrev pub most : Operator → ℕ
most Predicate = 1 + most_arguments
most And = 2
most Or = 2
most Not = 1
most Exists = 2
most AllNext = 1
most SomeNext = 1
most AllUntil = 2
most SomeUntil = 2

abbrev pub shape_of : Operator → Shape
shape_of o = record { operator = o; fewest = fewest o; most = most o }

-- the count of numbers is right
abbrev pub counted : Operator → List ℕ → Bool
counted o ns = nat_le (fewest o) (length ns) && nat_le (length ns) (most o)

abbrev pub operators : List Operator
operators =
    Predicate ∷ And ∷ Or ∷ Not ∷ Exists ∷ AllNext ∷ SomeNext ∷ AllUntil ∷ SomeUntil ∷ []

-- the first of the operators that has the character
abbrev pub operator_of : ℕ → Option Operator
operator_of c = find (λ o. c == character o) operators
