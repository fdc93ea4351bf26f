-- The lists that lent rows stand for.
use Rattle.std.specs.Prelude.{ℕ, ◌/◌, min, List, [], ◌∷◌, length, take, drop}
use Rattle.lists.specs.Counts.{list_count}
use Rattle.lists.specs.Tables.{Table}
use Rattle.lists.specs.declared.lists.Lists.{Lists}

-- how many rows a list may have: so many, or as many as the lent rows have room for in every list
abbrev pub room_for : {A : Type 0} → List A → ℕ → ℕ
room_for rows limit = min limit (length rows / list_count)

-- rows cut into stretches of that many, and of each stretch as many as its length says
abbrev pub cut : {A : Type 0} → ℕ → List ℕ → List A → List (List A)
cut limit [] rows = []
cut limit (n ∷ ns) rows = take n rows ∷ cut limit ns (drop limit rows)

unfoldable pub table_in : {R : Type 0} → Lists R → Table R
table_in l = record { limit = l.limit; lists = cut l.limit l.lengths l.rows.now }
