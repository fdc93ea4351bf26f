-- Valuations: a value of the kind for each variable.
use Rattle.std.specs.Prelude.{ℕ, cond, ◌==◌}
use Rattle.kinds.specs.Consequences.{Value}
use Rattle.kinds.specs.Model.{Model}

abbrev pub Valuation : Type 0
Valuation = ℕ → ℕ

-- each variable has a value of the kind
abbrev pub Values : {B : Type 0} → Model B → Valuation → Type 0
Values m v = (x : ℕ) → Value m (v x)

-- the valuation with n put for the variable x
abbrev pub put : Valuation → ℕ → ℕ → Valuation
put v x n y = cond (y == x) n (v y)
