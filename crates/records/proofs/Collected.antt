-- Laws of the numbers in the fields, field by field.
use Rattle.std.proofs.Common.{◌≡◌, ℕ, zero, suc, ◌+◌, ◌-◌, ◌<◌, ◌≤◌, List, [], ◌∷◌, ◌++◌, length, get_or, drop, Some, None, Ok, Err, Option, Result, unwrap_or, sym, refl, ap, ◌∙◌, append_assoc, append-nil, arith}
use Rattle.std.proofs.lemmas.List.{at_drop_all, at_drop_more}
use Rattle.std.proofs.lemmas.Option.{unwrap_or-slice_get}
use Rattle.std.specs.List.{slice_get}
use Rattle.std.specs.Option.{ok_or}
use Rattle.records.specs.declared.fault.Fault.{Fault}
use Rattle.records.specs.declared.fault.Fault.TheVariants.{Number}
use Rattle.records.specs.Asked.{numbers, onto}
use Rattle.records.specs.Numbers.{number_of}
use Rattle.records.specs.Texts.{field_at, fields}

-- what a field says, ahead of what others say
abbrev pub heads : Result ℕ Fault → Result (List ℕ) Fault → Result (List ℕ) Fault
heads (Ok n) r = onto n r
heads (Err fault) r = Err fault

by_number : (at : ℕ) (o : Option ℕ) (r : Result (List ℕ) Fault)
    → (elim o [ None ↦ Err (Number at) | Some n ↦ onto n r ]) ≡ heads (ok_or o (Number at)) r
by_number at None r = refl
by_number at (Some n) r = refl

-- the number in the field that has k others before it, where its own number is `at`
abbrev pub number_in : List (List ℕ) → ℕ → ℕ → Result ℕ Fault
number_in fs at k = ok_or (number_of (unwrap_or (slice_get fs k) [])) (Number at)

module _ (fs : List (List ℕ)) where
  -- a field is left
  pub numbers_more : (at k : ℕ) → k < length fs
      → numbers at (drop k fs) ≡ heads (number_in fs at k) (numbers (at + 1) (drop (k + 1) fs))
  unfolding numbers
  numbers_more at k h =
      let rest = numbers (at + 1) (drop (k + 1) fs) in
      at_drop_more (numbers at) fs k [] h ∙ by_number at (number_of (get_or fs k [])) rest
      ∙ ap (λ f. heads (ok_or (number_of f) (Number at)) rest) (sym (unwrap_or-slice_get fs k []))

  -- no field is left
  pub numbers_none : (at k : ℕ) → length fs ≤ k → numbers at (drop k fs) ≡ Ok []
  unfolding numbers
  numbers_none at k h = at_drop_all (numbers at) fs k h

  -- two fields behind the letter
  pub numbers_two : 3 ≤ length fs
      → numbers 2 (drop 1 fs) ≡ heads (number_in fs 2 1) (heads (number_in fs 3 2) (numbers 4 (drop 3 fs)))
  numbers_two h =
      numbers_more 2 1 (omega arith) ∙ ap (heads (number_in fs 2 1)) (numbers_more 3 2 (omega arith))

-- some numbers, and then others
abbrev pub after : List ℕ → Result (List ℕ) Fault → Result (List ℕ) Fault
after ms (Ok ns) = Ok (ms ++ ns)
after ms (Err fault) = Err fault

-- one more of the first
pub after_push : (ms : List ℕ) (n : ℕ) (r : Result (List ℕ) Fault) → after ms (onto n r) ≡ after (ms ++ n ∷ []) r
after_push ms n (Ok ns) = ap (λ xs. Ok xs) (sym (append_assoc ms (n ∷ []) ns))
after_push ms n (Err fault) = refl

-- the numbers in the fields from the field `at` on
abbrev pub from : List ℕ → ℕ → Result (List ℕ) Fault
from text at = numbers at (drop (at - 1) (fields text))

-- the number in the field `at`
abbrev pub here : List ℕ → ℕ → Result ℕ Fault
here text at = ok_or (number_of (unwrap_or (field_at text at) [])) (Number at)

from_step : (text : List ℕ) (at : ℕ) → 0 < at → at ≤ length (fields text)
    → from text at ≡ heads (here text at) (from text (at + 1))
from_step text zero some h = absurd (omega arith)
from_step text (suc i) some h =
    let fs = fields text in
    let this : suc i - 1 ≡ i = omega arith in
    let next : i + 1 ≡ suc i + 1 - 1 = omega arith in
    ap (λ k. numbers (suc i) (drop k fs)) this ∙ numbers_more fs (suc i) i (omega arith)
    ∙ ap (λ k. heads (here text (suc i)) (numbers (suc i + 1) (drop k fs))) next

module _ (text : List ℕ) (at : ℕ) (ms : List ℕ) where
  -- a field that is a number
  pub after_more : (n : ℕ) (ns : List ℕ) → 0 < at → at ≤ length (fields text) → Ok n ≡ here text at
      → ns ≡ ms ++ n ∷ [] → after ms (from text at) ≡ after ns (from text (at + 1))
  after_more n ns some h e push =
      let rest = from text (at + 1) in
      ap (after ms) (from_step text at some h ∙ ap (λ r. heads r rest) (sym e)) ∙ after_push ms n rest
      ∙ ap (λ l. after l rest) (sym push)

  -- a field that is not
  pub after_bad : (fault : Fault) → 0 < at → at ≤ length (fields text) → Err fault ≡ here text at
      → after ms (from text at) ≡ Err fault
  after_bad fault some h e = ap (after ms) (from_step text at some h ∙ ap (λ r. heads r (from text (at + 1))) (sym e))

  -- no field is left
  pub after_all : length (fields text) < at → after ms (from text at) ≡ Ok ms
  after_all h = ap (after ms) (numbers_none (fields text) at (at - 1) (omega arith)) ∙ ap (λ ns. Ok ns) (append-nil ms)

pub ruleset after_laws = (after_bad, after_all)
