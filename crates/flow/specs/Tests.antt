-- The earliest of several refusals.
use Rattle.std.specs.Prelude.{Bool, cond, List, [], ◌∷◌, Some, None, Option}

-- what the earliest test that applies gives
abbrev pub earliest : {R : Type 0} → List (Bool × R) → Option R
earliest [] = None
earliest (t ∷ ts) = cond t.0 (Some t.1) (earliest ts)
