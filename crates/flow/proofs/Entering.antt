-- What holds of a line that is entered, and of the sheet with it.
use Rattle.std.proofs.Common.{◌≡◌, ℕ, ◌<◌, true, List, [], ◌∷◌, ◌++◌, length, Ok, Err, Result, sym, ap, ◌∙◌, inl, inr, arith}
use Rattle.flow.specs.Facts.{Ordered}
use Rattle.flow.specs.Limits.{most_lines}
use Rattle.flow.specs.Line.{Line}
use Rattle.flow.specs.Operators.{operator_of}
use Rattle.flow.specs.Sheet.{entry, placed, right, worded}
use Rattle.flow.specs.declared.refusal.Refusal.{Refusal}
use Rattle.std.proofs.lemmas.Bool.{cases_lt}
use Rattle.std.proofs.lemmas.Bool.Decides.{nat_tests}
use Rattle.std.proofs.lemmas.List.{get_or_append_left, length-map, length_push, map_push}
use Rattle.std.proofs.Math.Seq.{get_or-append_seam}

placed-right : (n : ℕ) (o : Result Line Refusal) (l : Line) → placed n o ≡ Ok l → (right n l ≡ true) × (n < most_lines)
placed-right n (Err r) l e = let z : ◌≡◌ {A = ℕ} 0 1 = cc in (absurd (omega arith), omega arith)
placed-right n (Ok x) l e = (grind (arith, nat_tests), grind (arith, nat_tests))

-- one more line, right where it stands
ordered_push : (ls : List Line) (l : Line) → Ordered ls → right (length ls) l ≡ true → Ordered (ls ++ l ∷ [])
ordered_push ls l o e i d h =
    elim (cases_lt i (length ls)) [
      | inl k ↦ ap (right i) (get_or_append_left ls (l ∷ []) d i k) ∙ o i d k
      | inr k ↦
          let last : i ≡ length ls = omega (arith, length_push ls l) in
          rw (last, get_or-append_seam ls l [] d) e
    ]

-- a line that is entered is right where it stands, and there is room for it
module _ (ls : List Line) (c : ℕ) (ns : List ℕ) (l : Line) (e : Ok l ≡ entry ls c ns) where
  fits : (right (length ls) l ≡ true) × (length ls < most_lines)
  unfolding entry
  fits = placed-right (length ls) (worded (operator_of c) ns) l (sym e)

  pub entry_room : length ls < most_lines
  entry_room = fits.1

  pub entry_ordered : Ordered ls → Ordered (ls ++ l ∷ [])
  entry_ordered o = ordered_push ls l o fits.0

pub ruleset entering = (entry_room, entry_ordered, length-map, map_push)
