-- The denial of a row: rows that together cover exactly what the row does not.
use Rattle.std.specs.Prelude.{ℕ, ◌+◌, ◌-◌, cond, List, [], ◌∷◌, ◌++◌, map, drop, ◌==◌, nat_lt}
use Rattle.flow.specs.Limits.{variables}
use Rattle.kinds.specs.Model.{Model}
use Rattle.rows.specs.Rows.{blank, box, with_box}
use Rattle.rows.specs.declared.denial.Denial.{Denial}
use Rattle.rows.specs.declared.row.Row.{Row}
use Rattle.std.specs.List.{range_with_len, flat_map}

module _ {B : Type 0} (m : Model B) where
  -- the blank row of s, unless that is the row's own state
  abbrev pub elsewhere : Row B → ℕ → List (Row B)
  elsewhere t s = cond (s == t.state) [] (blank m s ∷ [])

  -- for each piece of the row's box of x, a blank row of its state with that piece
  abbrev pub besides : Row B → ℕ → List (Row B)
  besides t x = map (λ c. with_box m (blank m t.state) x c) (m.pieces (box m t x))

  -- in a graph of so many states: the blank rows of the other states, ascending, then what the boxes leave out
  unfoldable pub denial : ℕ → Row B → List (Row B)
  denial states t =
      flat_map (elsewhere t) (range_with_len 0 states)
      ++ flat_map (besides t) (range_with_len 0 variables)

  -- what is left of the boxes: of x all pieces but the first so many, and the later variables
  abbrev pub besides_from : Row B → ℕ → ℕ → List (Row B)
  besides_from t x past =
      cond (nat_lt x variables)
      (drop past (besides t x) ++ flat_map (besides t) (range_with_len (x + 1) (variables - (x + 1))))
      []

  -- the blank rows that a walk has still to give
  abbrev pub elsewhere_left : {K : Type 0} → Denial K B → List (Row B)
  elsewhere_left d = flat_map (elsewhere d.of) (range_with_len d.states.start (d.states.end - d.states.start))

  -- the rows of the row's own state that it has still to give
  abbrev pub besides_left : {K : Type 0} → Denial K B → List (Row B)
  besides_left d = besides_from d.of d.variable d.piece

  -- what a walk has still to give
  unfoldable pub left : {K : Type 0} → Denial K B → List (Row B)
  left d = elsewhere_left d ++ besides_left d
