-- What the records of a text come to, one after the other. Each record is a text.
use Rattle.std.specs.Prelude.{ℕ, ◌+◌, List, [], ◌∷◌, Ok, Err, Result}
use Rattle.drawing.specs.Refused.{Refused}
use Rattle.drawing.specs.declared.fault.Fault.{Fault}
use Rattle.drawing.specs.declared.fault.Fault.TheVariants as why
use Rattle.drawing.specs.declared.step.Step.{Step}
use Rattle.drawing.specs.declared.step.Step.TheVariants.{Checks, Closes, Goes}
use Rattle.flow.specs.Cases.{Content}
use Rattle.flow.specs.Drawn.{after, answer}
use Rattle.flow.specs.Graph.{Graph}
use Rattle.flow.specs.Line.{Line}
use Rattle.flow.specs.Sheet.{entered, entry}
use Rattle.flow.specs.declared.refusal.Refusal.{Refusal}
use Rattle.records.specs.Asked.{DraftCall, SheetCall, build, check, close, draft_call, line, sheet_call}
use Rattle.records.specs.declared.fault.Fault as text

-- where a case stands: a draft with its graph, or a closed case with its graph and its sheet
pub data Standing : Type 0 where
  drafting : Graph → Standing
  closed_case : Content → Standing

-- what a call on a draft does, unless it is refused
abbrev pub draft_step : Graph → DraftCall → Result Step Refusal
draft_step g (build b) = answer g b Goes
draft_step g close = Ok Closes

-- a line that is entered is one step
abbrev pub one_step : Result Line Refusal → Result Step Refusal
one_step (Ok l) = Ok Goes
one_step (Err r) = Err r

-- what a call on a closed case does, unless it is refused
abbrev pub sheet_step : Content → SheetCall → Result Step Refusal
sheet_step k (line c ns) = one_step (entry k.lines c ns)
sheet_step k (check a) = Ok Checks

-- a refusal of the case, as a fault of the record
abbrev pub by_case : Result Step Refusal → Result Step Fault
by_case (Ok s) = Ok s
by_case (Err r) = Err (why.Case r)

-- what a record does by the call that it asks for, unless the text or the case refuses it
abbrev pub by_text : {C : Type 0} → (C → Result Step Refusal) → Result C text.Fault → Result Step Fault
by_text step (Ok call) = by_case (step call)
by_text step (Err f) = Err (why.Text f)

abbrev pub reply : Standing → List ℕ → Result Step Fault
reply (drafting g) t = by_text (draft_step g) (draft_call t)
reply (closed_case k) t = by_text (sheet_step k) (sheet_call t)

-- the graph after a call
abbrev pub drawn_by : Graph → DraftCall → Graph
drawn_by g (build b) = after g b
drawn_by g close = g

-- the closed case after a call: a line goes on the sheet
abbrev pub entered_by : Content → SheetCall → Content
entered_by k (line c ns) = record { graph = k.graph; lines = entered k.lines (entry k.lines c ns) }
entered_by k (check a) = k

-- what is left by a record: all as it was, where it asks for no call
abbrev pub left_by : {C S : Type 0} → (S → C → S) → S → Result C text.Fault → S
left_by change s (Ok call) = change s call
left_by change s (Err f) = s

-- where the case stands after a record
abbrev pub next : Standing → List ℕ → Standing
next (drafting g) t = drafting (left_by drawn_by g (draft_call t))
next (closed_case k) t = closed_case (left_by entered_by k (sheet_call t))

-- by what becomes of a record: one thing where it closes the draft, another where it does not
abbrev pub if_closes : {A : Type 0} → Result Step Fault → A → A → A
if_closes (Ok Goes) yes_it_does it_does_not = it_does_not
if_closes (Ok Checks) yes_it_does it_does_not = it_does_not
if_closes (Ok Closes) yes_it_does it_does_not = yes_it_does
if_closes (Err f) yes_it_does it_does_not = it_does_not

-- where the case stands after the records up to the one that closes it
unfoldable pub final : Standing → List (List ℕ) → Standing
final s [] = s
final s (t ∷ ts) = if_closes (reply s t) (next s t) (final (next s t) ts)

-- the records after the one that closes it
unfoldable pub later : Standing → List (List ℕ) → List (List ℕ)
later s [] = []
later s (t ∷ ts) = if_closes (reply s t) ts (later (next s t) ts)

-- a refused record before others
abbrev pub and_refused : ℕ → Result Step Fault → List Refused → List Refused
and_refused n (Ok s) rs = rs
and_refused n (Err f) rs = record { at = n; fault = f } ∷ rs

-- the refused ones among the records up to the one that closes, where n records stand before them
unfoldable pub refused : Standing → ℕ → List (List ℕ) → List Refused
refused s n [] = []
refused s n (t ∷ ts) =
    and_refused (n + 1) (reply s t) (if_closes (reply s t) [] (refused (next s t) (n + 1) ts))

-- one more where the record asks for a check
abbrev pub and_check : Result Step Fault → ℕ → ℕ
and_check (Ok Goes) k = k
and_check (Ok Checks) k = k + 1
and_check (Ok Closes) k = 0
and_check (Err f) k = k

-- how many of them ask for a check
unfoldable pub checks : Standing → List (List ℕ) → ℕ
checks s [] = 0
checks s (t ∷ ts) = and_check (reply s t) (checks (next s t) ts)
