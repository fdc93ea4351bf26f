-- The row of a label, variable by variable.
use Rattle.std.proofs.Common.{◌≡◌, ℕ, ◌+◌, ◌<◌, true, ltb, List, [], ◌∷◌, length, get_or, drop, Some, None, Option, zero, suc, refl, arith}
use Rattle.flow.specs.Limits.{variables}
use Rattle.kinds.specs.Model.{Model}
use Rattle.logic.specs.Operators.{met_with, naming, narrowed}
use Rattle.rows.specs.Rows.{box}
use Rattle.rows.specs.declared.row.Row.{Row}
use Rattle.std.proofs.lemmas.Bool.{and_parts, ltb-true}
use Rattle.std.proofs.lemmas.List.{drop_more}
use Rattle.std.specs.List.{list_all}

-- where counts differ, no row is named
pub naming_uneven : {B : Type 0} (m : Model B) (o : Option (Row B)) (xs ns : List ℕ) → (length xs ≡ length ns → ⊥)
    → naming m o xs ns ≡ None
naming_uneven m None xs ns d = refl
naming_uneven m (Some r) [] [] d = absurd (d refl)
naming_uneven m (Some r) [] (n ∷ ns) d = refl
naming_uneven m (Some r) (x ∷ xs) [] d = refl
naming_uneven m (Some r) (x ∷ xs) (n ∷ ns) d =
    naming_uneven m (narrowed m r x (met_with m (box m r x) (m.one n))) xs ns (λ e. d (omega arith))

-- a number of a list of variables is that of a variable
pub variable_at : (xs : List ℕ) (i : ℕ) → list_all (λ x. ltb x variables) xs ≡ true → i < length xs
    → get_or xs i 0 < variables
variable_at [] i small below = absurd (omega arith)
variable_at (x ∷ xs) zero small below = ltb-true x variables (and_parts (ltb x variables) _ small).0
variable_at (x ∷ xs) (suc i) small below =
    variable_at xs i (and_parts (ltb x variables) _ small).1 (omega arith)

-- one variable named: what is left to name comes to the same
pub naming_more : {B : Type 0} (m : Model B) (r : Row B) (q : Option (Row B)) (xs ns : List ℕ) (i x n : ℕ)
    → i < length xs → i < length ns → x ≡ get_or xs i 0 → n ≡ get_or ns i 0
    → q ≡ narrowed m r x (met_with m (box m r x) (m.one n))
    → naming m q (drop (i + 1) xs) (drop (i + 1) ns) ≡ naming m (Some r) (drop i xs) (drop i ns)
naming_more m r q xs ns i x n below under here value gives =
    rw (drop_more xs i 0 below, drop_more ns i 0 under, ← here, ← value, gives) refl
