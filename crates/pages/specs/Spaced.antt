-- Numbers as text, with single spaces between them.
use Rattle.std.specs.Prelude.{ℕ, List, codes, decimal}
use Rattle.std.specs.List.{join_by}

-- the numbers to base ten, with a space between each two
abbrev pub spaced : List ℕ → List ℕ
spaced ns = join_by decimal (codes " ") ns
