-- What a record asks for: a call, or the earliest fault in the order broken, form, phase, number.
use Rattle.std.specs.Prelude.{ℕ, ◌+◌, Bool, cond, not, ◌&&◌, ◌||◌, List, [], ◌∷◌, length, drop, is_some, Some, None, Ok, Err, Option, Result, nat_le, slice_index, slice_index_or}
use Rattle.flow.specs.Build.{Build, state, edge, label}
use Rattle.std.specs.Option.{ok_or, unwrap_or}
use Rattle.records.specs.declared.fault.Fault.{Fault}
use Rattle.records.specs.declared.fault.Fault.TheVariants.{Broken, Form, Phase, Number}
use Rattle.records.specs.declared.letter.Letter.{Letter}
use Rattle.records.specs.declared.letter.Letter.TheVariants.{State, Edge, Label, Close, Line, Check}
use Rattle.records.specs.Letters.{letter_of, shape}
use Rattle.records.specs.Numbers.{number_of}
use Rattle.records.specs.Texts.{broken, fields, only}

-- a call on the draft: one that builds it, or its close
pub data DraftCall : Type 0 where
  build : Build → DraftCall
  close : DraftCall

-- a call on the closed case: a line of the sheet, by its operator and its numbers, or the check of a line
pub data SheetCall : Type 0 where
  line : ℕ → List ℕ → SheetCall
  check : ℕ → SheetCall

-- the letter has no operator, or the second field is one byte
abbrev pub operates : Letter → List (List ℕ) → Bool
operates letter fs = not (shape letter).operator || is_some (only (slice_index_or fs 1 []))

-- the fields are as many as the letter allows, with an operator if it has one
abbrev pub fits : Letter → List (List ℕ) → Bool
fits letter fs =
    nat_le (shape letter).least (length fs) && (nat_le (length fs) (shape letter).most && operates letter fs)

-- the letter, where the fields fit it
abbrev pub formed : Option Letter → List (List ℕ) → Option Letter
formed None fs = None
formed (Some letter) fs = cond (fits letter fs) (Some letter) None

-- the letter that the first field is, unless the record is broken or has not its form
unfoldable pub asked_letter : List ℕ → Result Letter Fault
asked_letter text =
    let fs = fields text in
    cond (broken text) (Err Broken) (ok_or (formed (letter_of (slice_index_or fs 0 [])) fs) Form)

-- a number ahead of others, unless one of those was bad
abbrev pub onto : ℕ → Result (List ℕ) Fault → Result (List ℕ) Fault
onto n (Ok ns) = Ok (n ∷ ns)
onto n (Err fault) = Err fault

-- the numbers in some fields, of which the first has the number `at`, or the leftmost bad one
unfoldable pub numbers : ℕ → List (List ℕ) → Result (List ℕ) Fault
numbers at [] = Ok []
numbers at (f ∷ fs) = elim (number_of f) [ None ↦ Err (Number at) | Some n ↦ onto n (numbers (at + 1) fs) ]

-- the numbers of a call stand after its letter, and after its operator if it has one
abbrev pub numbers_of : Letter → List (List ℕ) → Result (List ℕ) Fault
numbers_of letter fs = cond (shape letter).operator (numbers 3 (drop 2 fs)) (numbers 2 (drop 1 fs))

-- a call of its operator and numbers, unless it belongs to the other phase or a number is bad
abbrev pub called : {C : Type 0} → Option (ℕ → List ℕ → C) → ℕ → Result (List ℕ) Fault → Result C Fault
called None operator ns = Err Phase
called (Some call) operator (Ok ns) = Ok (call operator ns)
called (Some call) operator (Err fault) = Err fault

-- what the letter asks with the fields, in a phase that has these calls
abbrev pub asked_by : {C : Type 0} (calls : Letter → Option (ℕ → List ℕ → C))
    → List (List ℕ) → Result Letter Fault → Result C Fault
asked_by calls fs (Ok letter) =
    called (calls letter) (unwrap_or (only (slice_index_or fs 1 [])) 0) (numbers_of letter fs)
asked_by calls fs (Err fault) = Err fault

-- S, E, L and C are calls of the draft
abbrev pub draft_calls : Letter → Option (ℕ → List ℕ → DraftCall)
draft_calls State = Some (λ _ ns. build state)
draft_calls Edge = Some (λ _ ns. build (edge (slice_index ns 0) (slice_index ns 1)))
draft_calls Label = Some (λ _ ns. build (label (slice_index ns 0) (slice_index ns 1) (drop 2 ns)))
draft_calls Close = Some (λ _ ns. close)
draft_calls Line = None
draft_calls Check = None

-- F and K are calls of the closed case
abbrev pub sheet_calls : Letter → Option (ℕ → List ℕ → SheetCall)
sheet_calls State = None
sheet_calls Edge = None
sheet_calls Label = None
sheet_calls Close = None
sheet_calls Line = Some (λ operator ns. line operator ns)
sheet_calls Check = Some (λ _ ns. check (slice_index ns 0))

-- what a text asks of a draft as a record
abbrev pub draft_call : List ℕ → Result DraftCall Fault
draft_call text = asked_by draft_calls (fields text) (asked_letter text)

-- and what it asks of a closed case
abbrev pub sheet_call : List ℕ → Result SheetCall Fault
sheet_call text = asked_by sheet_calls (fields text) (asked_letter text)
