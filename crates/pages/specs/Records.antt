-- Printed records: fields after commas, and the end of a record.
use Rattle.std.specs.Prelude.{ℕ, List, [], ◌∷◌, ◌++◌, codes, decimal}
use Rattle.std.specs.List.{flat_map}

-- numbers as fields of a record, each after a comma
abbrev pub as_fields : List ℕ → List ℕ
as_fields ns = flat_map (λ n. codes "," ++ decimal n) ns

-- CR and LF, which end a record
abbrev pub crlf : List ℕ
crlf = 13 ∷ 10 ∷ []
