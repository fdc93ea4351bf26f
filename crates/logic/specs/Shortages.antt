-- What a working out may want room for, each with its number as a refusal.
use Rattle.std.specs.Prelude.{ℕ}
use Rattle.logic.specs.declared.shortage.Shortage.{Shortage}
use Rattle.logic.specs.declared.shortage.Shortage.TheVariants.{Rows, Witnesses}

abbrev pub number : Shortage → ℕ
number Rows = 11
number Witnesses = 12
