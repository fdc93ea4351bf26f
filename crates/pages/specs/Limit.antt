-- The most bytes of a page.
use Rattle.std.specs.Prelude.{ℕ}

abbrev pub limit : ℕ
limit = 65536
