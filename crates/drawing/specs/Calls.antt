-- The calls that the records of a text ask for.
use Rattle.std.specs.Prelude.{ℕ, List, [], ◌∷◌, Ok, Err, Result}
use Rattle.flow.specs.Build.{Build}
use Rattle.records.specs.Asked.{DraftCall, SheetCall, build, check, close, draft_call, line, sheet_call}
use Rattle.records.specs.declared.fault.Fault.{Fault}

-- a record that asks for a call of the draft, before the calls of the others; none follow the one that closes it
abbrev pub and_build : Result DraftCall Fault → List Build → List Build
and_build (Ok (build b)) bs = b ∷ bs
and_build (Ok close) bs = []
and_build (Err f) bs = bs

-- the calls that draw
unfoldable pub builds : List (List ℕ) → List Build
builds [] = []
builds (t ∷ ts) = and_build (draft_call t) (builds ts)

-- a record that asks for a line, before the calls of the others
abbrev pub and_line : Result SheetCall Fault → List (ℕ × List ℕ) → List (ℕ × List ℕ)
and_line (Ok (line c ns)) cs = (c, ns) ∷ cs
and_line (Ok (check a)) cs = cs
and_line (Err f) cs = cs

-- the calls that enter lines, each a character and numbers
unfoldable pub line_calls : List (List ℕ) → List (ℕ × List ℕ)
line_calls [] = []
line_calls (t ∷ ts) = and_line (sheet_call t) (line_calls ts)
