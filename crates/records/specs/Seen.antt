-- The declared calls, seen as what they ask for.
use Rattle.flow.specs.Build.{state, edge, label}
use Rattle.std.specs.Prelude.{Ok, Err, Result}
use Rattle.records.specs.declared.call.DraftCall as declared_draft
use Rattle.records.specs.declared.call.DraftCall.TheVariants.{State, Edge, Label, Close}
use Rattle.records.specs.declared.call.SheetCall as declared_sheet
use Rattle.records.specs.declared.call.SheetCall.TheVariants.{Line, Check}
use Rattle.records.specs.Asked.{DraftCall, build, close, SheetCall, line, check}
use Rattle.stores.specs.Listed.{listed}

-- a call on the draft
abbrev pub draft_seen : declared_draft.DraftCall → DraftCall
draft_seen State = build state
draft_seen (Edge from to) = build (edge from to)
draft_seen (Label at predicate values) = build (label at predicate (listed values))
draft_seen Close = close

-- a call on the closed case
abbrev pub sheet_seen : declared_sheet.SheetCall → SheetCall
sheet_seen (Line operator numbers) = line operator (listed numbers)
sheet_seen (Check at) = check at

-- an answer, with the value in it seen so
abbrev pub seen : {A B E : Type 0} → (A → B) → Result A E → Result B E
seen see (Ok x) = Ok (see x)
seen see (Err e) = Err e
