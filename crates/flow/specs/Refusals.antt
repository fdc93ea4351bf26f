-- The refusals of the calls on a case, each with its number.
use Rattle.std.specs.Prelude.{ℕ, Some, None, Ok, Err, Option, Result}
use Rattle.flow.specs.declared.refusal.Refusal.{Refusal}
use Rattle.flow.specs.declared.refusal.Refusal.TheVariants.{
  TooManyStates,
  UnknownState,
  AlreadyThere,
  TableFull,
  BadLabel,
  UnknownOperator,
  BadOperand,
}

abbrev pub number : Refusal → ℕ
number TooManyStates = 1
number UnknownState = 2
number AlreadyThere = 3
number TableFull = 4
number BadLabel = 5
number UnknownOperator = 6
number BadOperand = 7

-- the reply to a call: its answer, unless it is refused
abbrev pub reply : {A : Type 0} → Option Refusal → A → Result A Refusal
reply None x = Ok x
reply (Some r) x = Err r

-- what a call leaves: what it adds to, unless it is refused
abbrev pub leaving : {A : Type 0} → Option Refusal → A → A → A
leaving None found changed = changed
leaving (Some r) found changed = found
