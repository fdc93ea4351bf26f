-- A case as records.
use Rattle.std.specs.Prelude.{ℕ, zero, suc, ◌+◌, cond, List, [], ◌∷◌, ◌++◌, codes, ◌==◌}
use Rattle.flow.specs.Cases.{Content}
use Rattle.flow.specs.Graph.{Graph, Label, successors}
use Rattle.flow.specs.Line.{Line, numbers, operator}
use Rattle.flow.specs.Operators.{character}
use Rattle.pages.specs.Records.{as_fields, crlf}
use Rattle.pages.specs.Spaced.{spaced}
use Rattle.std.specs.List.{flat_map}

-- a label of s as a field: its predicate and its values with single spaces between; nothing of another state's
abbrev pub label_field : ℕ → Label → List ℕ
label_field s l = cond (l.state == s) (codes "," ++ spaced (l.predicate ∷ l.values)) []

-- the labels of s as fields
abbrev pub label_fields : List Label → ℕ → List ℕ
label_fields ls s = flat_map (label_field s) ls

-- `S,state,successors` and its labels
abbrev pub state_text : Graph → ℕ → List ℕ
state_text g s =
    (codes "S" ++ as_fields (s ∷ [])) ++ ((codes "," ++ spaced (successors g s)) ++ (label_fields g.labels s ++ crlf))

-- the states below n, ascending
abbrev pub states_text : Graph → ℕ → List ℕ
states_text g zero = []
states_text g (suc s) = states_text g s ++ state_text g s

-- `F,line,operator,numbers`
abbrev pub line_text : ℕ → Line → List ℕ
line_text n l =
    (codes "F" ++ as_fields (n ∷ [])) ++ ((codes "," ++ character (operator l) ∷ []) ++ (as_fields (numbers l) ++ crlf))

-- the lines, the first of which has the number n
abbrev pub lines_text : ℕ → List Line → List ℕ
lines_text n [] = []
lines_text n (l ∷ ls) = line_text n l ++ lines_text (n + 1) ls

abbrev pub case_text : Content → List ℕ
case_text k = states_text k.graph k.graph.states ++ lines_text 0 k.lines
