-- The sheet: what a call for a line is refused for, what it adds, and the lines that a list of calls enters.
use Rattle.std.specs.Prelude.{ℕ, Bool, cond, ◌&&◌, List, [], ◌∷◌, ◌++◌, length, Some, None, Ok, Err, Option, Result, nat_lt}
use Rattle.flow.specs.Limits.{most_lines, predicates, variables}
use Rattle.flow.specs.Line.{
  Line,
  all_next,
  all_until,
  and,
  exists,
  made,
  not,
  or,
  predicate,
  some_next,
  some_until,
}
use Rattle.flow.specs.Operators.{counted, operator_of}
use Rattle.std.specs.List.{list_all}
use Rattle.flow.specs.declared.operator.Operator.{Operator}
use Rattle.flow.specs.declared.refusal.Refusal.{Refusal}
use Rattle.flow.specs.declared.refusal.Refusal.TheVariants.{BadOperand, TableFull, UnknownOperator}

-- after n lines the operands are right: lines are earlier ones, variables and predicates are below their bounds
abbrev pub right : ℕ → Line → Bool
right n (predicate p xs) = nat_lt p predicates && list_all (λ x. nat_lt x variables) xs
right n (and a b) = nat_lt a n && nat_lt b n
right n (or a b) = nat_lt a n && nat_lt b n
right n (not a) = nat_lt a n
right n (exists x a) = nat_lt x variables && nat_lt a n
right n (all_next a) = nat_lt a n
right n (some_next a) = nat_lt a n
right n (all_until a b) = nat_lt a n && nat_lt b n
right n (some_until a b) = nat_lt a n && nat_lt b n

-- the line that an operator and numbers ask for
abbrev pub worded : Option Operator → List ℕ → Result Line Refusal
worded None ns = Err UnknownOperator
worded (Some o) ns = cond (counted o ns) (Ok (made o ns)) (Err BadOperand)

-- the same line after n others
abbrev pub placed : ℕ → Result Line Refusal → Result Line Refusal
placed n (Err r) = Err r
placed n (Ok l) = cond (right n l) (cond (nat_lt n most_lines) (Ok l) (Err TableFull)) (Err BadOperand)

-- what a call for a line comes to: the line, or the earliest refusal
unfoldable pub entry : List Line → ℕ → List ℕ → Result Line Refusal
entry ls c ns = placed (length ls) (worded (operator_of c) ns)

-- the reply: the line's number
abbrev pub numbered : ℕ → Result Line Refusal → Result ℕ Refusal
numbered n (Ok l) = Ok n
numbered n (Err r) = Err r

-- the sheet after it: a refused call adds nothing
abbrev pub entered : List Line → Result Line Refusal → List Line
entered ls (Ok l) = ls ++ l ∷ []
entered ls (Err r) = ls

-- the lines that a list of calls enters, each a character and numbers, after what is there
abbrev pub entered_on : List Line → List (ℕ × List ℕ) → List Line
entered_on ls [] = ls
entered_on ls (c ∷ cs) = entered_on (entered ls (entry ls c.0 c.1)) cs

abbrev pub sheet : List (ℕ × List ℕ) → List Line
sheet cs = entered_on [] cs
