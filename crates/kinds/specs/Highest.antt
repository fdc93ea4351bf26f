-- The highest amount.
use Rattle.std.specs.Prelude.{ℕ}

abbrev pub highest : ℕ
highest = 4_294_967_295
