-- How many lists there are, and how many rows a list may have at most.
use Rattle.std.specs.Prelude.{ℕ}

abbrev pub list_count : ℕ
list_count = 36

abbrev pub most_rows : ℕ
most_rows = 1024
