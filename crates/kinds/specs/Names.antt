-- How many fragments are nameable: the numbers below this one.
use Rattle.std.specs.Prelude.{ℕ}

abbrev pub names : ℕ
names = 64
