-- Marks on the lines of a sheet, as a table of truth values.
use Rattle.std.specs.Prelude.{ℕ, Bool, false, List, slice_index_or}

-- the marks that a table holds
abbrev pub marked : List Bool → ℕ → Bool
marked marks i = slice_index_or marks i false
