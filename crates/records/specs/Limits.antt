-- How much a record may hold.
use Rattle.std.specs.Prelude.{ℕ}

-- the most fields of a record that is a call
abbrev pub most_fields : ℕ
most_fields = 7
