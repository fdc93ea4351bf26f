-- Trials: small graphs and boxes with what is to come out, one table.
use Rattle.std.specs.Prelude.{◌≡◌, ℕ, ◌+◌, ◌^◌, Bool, true, false, ◌&&◌, List, [], ◌∷◌, Some, None, Ok, Err, Option, ◌==◌}
use Rattle.flow.specs.Build.{Build, edge, label, state}
use Rattle.flow.specs.Closed.{closed}
use Rattle.flow.specs.Drawn.{drawn}
use Rattle.flow.specs.Sheet.{sheet}
use Rattle.kinds.specs.Amounts.{amounts, span}
use Rattle.kinds.specs.Fragments.{fragments, named, without}
use Rattle.kinds.specs.Highest.{highest}
use Rattle.kinds.specs.Model.{Model}
use Rattle.kinds.specs.declared.amounts.span.Span.{Span}
use Rattle.kinds.specs.declared.fragments.fragment.Fragment.{Fragment}
use Rattle.rows.specs.Forests.{none, single, union}
use Rattle.rows.specs.Rows.{equal}
use Rattle.rows.specs.Witnesses.{equal_witness}
use Rattle.rows.specs.declared.row.Row.{Row}
use Rattle.rows.specs.declared.witness.Witness.{Witness}
use Rattle.logic.specs.Outcomes.{Outcome}
use Rattle.logic.specs.Shortages.{number}
use Rattle.logic.specs.Working.{Answer, Checks}
use Rattle.logic.specs.declared.shortage.Shortage.TheVariants.{Rows}
use Rattle.std.specs.List.{AllByRecursion}

-- the lists agree, place by place
abbrev pub agree : {A : Type 0} → (A → A → Bool) → List A → List A → Bool
agree same [] [] = true
agree same [] (y ∷ ys) = false
agree same (x ∷ xs) [] = false
agree same (x ∷ xs) (y ∷ ys) = same x y && agree same xs ys

-- both are none, or boxes that are the same
abbrev pub same_option : {B : Type 0} → Model B → Option B → Option B → Bool
same_option m None None = true
same_option m None (Some b) = false
same_option m (Some a) None = false
same_option m (Some a) (Some b) = m.same a b

-- the same refusal, or equal rows, equal witnesses and as many rounds
abbrev pub same_outcome : {B : Type 0} → Model B → Outcome (Answer B) → Outcome (Answer B) → Bool
same_outcome m (Ok a) (Ok b) =
    agree (equal m) a.rows b.rows
    && (agree (equal_witness m) a.witnesses b.witnesses && a.rounds == b.rounds)
same_outcome m (Ok a) (Err f) = false
same_outcome m (Err e) (Ok b) = false
same_outcome m (Err e) (Err f) = number e == number f

pub data Trial : Type 0 where
  -- of a graph and a sheet of fragments, drawn and entered by these calls: the line asked, the row limit, the outcome
  check : List Build → List (ℕ × List ℕ) → (asked limit : ℕ) → Outcome (Answer Fragment) → Trial
  -- what two fragments meet in, and the pieces of one
  fragments_meet : Fragment → Fragment → Option Fragment → Trial
  fragment_pieces : Fragment → List Fragment → Trial
  -- what two amounts meet in, and the pieces of one
  amounts_meet : Span → Span → Option Span → Trial
  amount_pieces : Span → List Span → Trial

-- the trial comes out as it is to
abbrev pub Passes : Trial → Type 0
Passes (check builds lines asked limit expected) =
    (out : Outcome (Answer Fragment))
    × Checks fragments (closed (drawn builds)) limit (sheet lines) asked out
    × (same_outcome fragments out expected ≡ true)
Passes (fragments_meet a b expected) = same_option fragments (fragments.meet a b) expected ≡ true
Passes (fragment_pieces b expected) = agree fragments.same (fragments.pieces b) expected ≡ true
Passes (amounts_meet a b expected) = same_option amounts (amounts.meet a b) expected ≡ true
Passes (amount_pieces b expected) = agree amounts.same (amounts.pieces b) expected ≡ true

-- `*` and `-1`, `-3`, `-5`, `-1 3`
abbrev star : Fragment
star = without 0

abbrev not_1 : Fragment
not_1 = without (2 ^ 1)

abbrev not_3 : Fragment
not_3 = without (2 ^ 3)

abbrev not_5 : Fragment
not_5 = without (2 ^ 5)

abbrev not_1_3 : Fragment
not_1_3 = without (2 ^ 1 + 2 ^ 3)

-- a row whose variable 0 has this box, the others any value, with no witnesses
abbrev first : ℕ → Fragment → Row Fragment
first s b = record { state = s; boxes = b ∷ star ∷ star ∷ star ∷ []; forest = none }

-- the same with the witnesses 0 and 1
abbrev first_of_two : ℕ → Fragment → Row Fragment
first_of_two s b =
    record { state = s; boxes = b ∷ star ∷ star ∷ star ∷ []; forest = union (single 0) (single 1) }

-- a witness for the variable 1, with none below it
abbrev second : ℕ → Fragment → Witness Fragment
second s b = record { state = s; variable = 1; found = b; forest = none }

-- rows without witnesses, after so many rounds
abbrev plain_rows : List (Row Fragment) → ℕ → Outcome (Answer Fragment)
plain_rows rows rounds = Ok (record { rows = rows; witnesses = []; rounds = rounds })

-- a start that branches: 0 to 1 and 3, 1 to 2, 3 to 4
abbrev branching : List Build
branching =
    state ∷ state ∷ state ∷ state ∷ state
    ∷ edge 0 1 ∷ edge 0 3 ∷ edge 1 2 ∷ edge 3 4
    ∷ label 0 1 (1 ∷ []) ∷ label 1 2 (2 ∷ []) ∷ label 2 3 (1 ∷ 2 ∷ []) ∷ label 3 2 (3 ∷ []) ∷ label 4 3 (1 ∷ 3 ∷ [])
    ∷ []

-- a loop at 0 that may be left to 1
abbrev looping : List Build
looping = state ∷ state ∷ edge 0 0 ∷ edge 0 1 ∷ label 1 1 (7 ∷ []) ∷ []

-- a chain from 2 by 1 to 0
abbrev chain : List Build
chain = state ∷ state ∷ state ∷ edge 1 0 ∷ edge 2 1 ∷ label 0 1 (7 ∷ []) ∷ []

-- the characters of `P & ! Q X A U`
abbrev P : ℕ
P = 80

abbrev And : ℕ
And = 38

abbrev Not : ℕ
Not = 33

abbrev Q : ℕ
Q = 81

abbrev X : ℕ
X = 88

abbrev A : ℕ
A = 65

abbrev U : ℕ
U = 85

-- on both branches a second value is found, and quantified
abbrev quantified : List (ℕ × List ℕ)
quantified =
    (P, 1 ∷ 0 ∷ []) ∷ (P, 2 ∷ 1 ∷ []) ∷ (P, 3 ∷ 0 ∷ 1 ∷ []) ∷ (X, 2 ∷ []) ∷ (And, 1 ∷ 3 ∷ []) ∷ (Q, 1 ∷ 4 ∷ [])
    ∷ (X, 5 ∷ []) ∷ (And, 0 ∷ 6 ∷ []) ∷ []

-- the same without the quantifier
abbrev unquantified : List (ℕ × List ℕ)
unquantified =
    (P, 1 ∷ 0 ∷ []) ∷ (P, 2 ∷ 1 ∷ []) ∷ (P, 3 ∷ 0 ∷ 1 ∷ []) ∷ (X, 2 ∷ []) ∷ (And, 1 ∷ 3 ∷ []) ∷ (X, 4 ∷ [])
    ∷ (And, 0 ∷ 5 ∷ []) ∷ []

abbrev denied : List (ℕ × List ℕ)
denied = (P, 1 ∷ 0 ∷ []) ∷ (Not, 0 ∷ []) ∷ []

abbrev twice_the_same : List (ℕ × List ℕ)
twice_the_same = (P, 3 ∷ 0 ∷ 0 ∷ []) ∷ []

-- anything, until the label of 7
abbrev until : ℕ → List (ℕ × List ℕ)
until operator = (P, 1 ∷ 0 ∷ []) ∷ (P, 9 ∷ []) ∷ (Not, 1 ∷ []) ∷ (operator, 2 ∷ 0 ∷ []) ∷ []

abbrev pub trials : List Trial
trials =
    check branching quantified 7 24
    (Ok (record {
      rows = first_of_two 0 (named 1) ∷ [];
      witnesses = second 1 (named 2) ∷ second 3 (named 3) ∷ [];
      rounds = 0;
    }))
    ∷ check branching unquantified 6 24 (plain_rows [] 0)
    ∷ check branching denied 1 24
    (plain_rows (first 0 not_1 ∷ first 1 star ∷ first 2 star ∷ first 3 star ∷ first 4 star ∷ []) 0)
    ∷ check branching denied 1 4 (Err Rows)
    ∷ check branching denied 1 5
    (plain_rows (first 0 not_1 ∷ first 1 star ∷ first 2 star ∷ first 3 star ∷ first 4 star ∷ []) 0)
    ∷ check branching twice_the_same 0 24 (plain_rows [] 0)
    ∷ check looping (until U) 3 24 (plain_rows (first 1 (named 7) ∷ first 0 (named 7) ∷ []) 2)
    ∷ check looping (until A) 3 24 (plain_rows (first 1 (named 7) ∷ []) 1)
    ∷ check chain (until A) 3 24
    (plain_rows (first 0 (named 7) ∷ first 1 (named 7) ∷ first 2 (named 7) ∷ []) 3)
    ∷ fragments_meet (named 5) not_5 None
    ∷ fragments_meet not_1 not_3 (Some not_1_3)
    ∷ fragment_pieces not_1_3 (named 1 ∷ named 3 ∷ [])
    ∷ amounts_meet (span 0 9) (span 9 12) (Some (span 9 9))
    ∷ amounts_meet (span 0 8) (span 9 12) None
    ∷ amount_pieces (span 5 5) (span 0 4 ∷ span 6 highest ∷ [])
    ∷ []

-- every trial passes
abbrev pub TrialsPass : Type 0
TrialsPass = AllByRecursion Passes trials
