-- The bytes that are printed, as a function of the bytes that are read.
use Rattle.std.specs.Prelude.{ℕ, ◌-◌, cond, List, [], ◌∷◌, ◌++◌, length, codes, nat_le}
use Rattle.drawing.specs.Calls.{builds, line_calls}
use Rattle.drawing.specs.Following.{Standing, checks, closed_case, drafting, later, refused}
use Rattle.drawing.specs.Refused.{Refused, told}
use Rattle.drawing.specs.Shown.{case_text}
use Rattle.flow.specs.Cases.{Content}
use Rattle.flow.specs.Closed.{closed}
use Rattle.flow.specs.Drawn.{drawn}
use Rattle.flow.specs.Graph.{Graph, nothing_drawn}
use Rattle.flow.specs.Sheet.{sheet}
use Rattle.pages.specs.Limit.{limit}
use Rattle.pages.specs.Records.{as_fields, crlf}
use Rattle.records.specs.Texts.{records}

-- the first records draw on an empty draft, up to the one that closes it
abbrev pub empty_draft : Standing
empty_draft = drafting nothing_drawn

-- the graph that their calls draw
abbrev pub drawn_graph : List (List ℕ) → Graph
drawn_graph rs = drawn (builds rs)

-- the draft is closed, by its record or at the end of the text, and the other records find an empty sheet
abbrev pub empty_sheet : List (List ℕ) → Standing
empty_sheet rs = closed_case record { graph = closed (drawn_graph rs); lines = [] }

-- the case in the end: the closed graph, and the lines that their calls enter
abbrev pub final_case : List (List ℕ) → Content
final_case rs = record { graph = closed (drawn_graph rs); lines = sheet (line_calls (later empty_draft rs)) }

-- the records that are refused, in their order
abbrev pub all_refused : List (List ℕ) → List Refused
all_refused rs =
    let more = later empty_draft rs in
    refused empty_draft 0 rs ++ refused (empty_sheet rs) (length rs - length more) more

-- `D`, and then what was done: states, edges drawn, edges that closing added, labels, lines, records refused, and
-- checks asked for and not yet worked
abbrev pub done_text : Content → ℕ → ℕ → ℕ → List ℕ
done_text k drawn refusals asked =
    let g = k.graph in
    let added = length g.edges - drawn in
    (codes "D"
    ++ as_fields (g.states ∷ drawn ∷ added ∷ length g.labels ∷ length k.lines ∷ refusals ∷ asked ∷ []))
    ++ crlf

-- the refusals, the closed case, and what was done
unfoldable pub drawing : List (List ℕ) → List ℕ
drawing rs =
    let asked = checks (empty_sheet rs) (later empty_draft rs) in
    told (all_refused rs)
    ++ (case_text (final_case rs)
    ++ done_text (final_case rs) (length (drawn_graph rs).edges) (length (all_refused rs)) asked)

-- `X,T,24,0,0`: too long
abbrev pub notice : List ℕ
notice = codes "X,T,24,0,0" ++ crlf

-- a text that is not too long, or the notice
abbrev pub within : List ℕ → List ℕ
within text = cond (nat_le (length text) limit) text notice

-- a text that is too long to be read is not looked into
unfoldable pub output : List ℕ → List ℕ
output input = cond (nat_le (length input) limit) (within (drawing (records input))) notice
