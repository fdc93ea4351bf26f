-- Bytes added to what a page shows, one lot after the other.
use Rattle.std.proofs.Common.{◌≡◌, ℕ, ◌+◌, ◌<◌, ◌≤◌, cond, leb, List, [], ◌∷◌, ◌++◌, length, Some, None, Option, sym, refl, ap, ◌∙◌, inl, inr, append_assoc, append-nil, arith, length-append}
use Rattle.std.proofs.lemmas.Bool.{cond_both, le-leb, leb-true, lt-leb}
use Rattle.std.proofs.lemmas.Bool.Decides.{leb_tells}
use Rattle.std.proofs.lemmas.Fmt.{decimal_digit, decimal_step}
use Rattle.std.proofs.lemmas.Grind.{common_steps}
use Rattle.std.proofs.lemmas.List.Concat.{flat_map-append}
use Rattle.pages.specs.Limit.{limit}
use Rattle.pages.specs.Pages.{Within, add}

-- where there is room for all, all are there
pub add_room : (xs bs : List ℕ) → length xs + length bs ≤ limit → add (Some xs) bs ≡ Some (xs ++ bs)
unfolding add
add_room xs [] h = ap (λ l. Some l) (sym (append-nil xs))
add_room xs (b ∷ bs) h = rw (le-leb (length xs + length (b ∷ bs)) limit h)

-- where one of them finds no room, nothing is shown
pub add_full :
    (xs bs : List ℕ) → 0 < length bs → limit < length xs + length bs → add (Some xs) bs ≡ None
unfolding add
add_full xs [] some h = absurd (omega arith)
add_full xs (b ∷ bs) some h = rw (lt-leb (length xs + length (b ∷ bs)) limit h)

-- of bytes that a page can hold both are one case
pub add_within : (xs bs : List ℕ) → length xs ≤ limit
    → add (Some xs) bs ≡ cond (leb (length xs + length bs) limit) (Some (xs ++ bs)) None
unfolding add
add_within xs [] h = rw (le-leb (length xs + 0) limit (omega arith)) (ap (λ l. Some l) (sym (append-nil xs)))
add_within xs (b ∷ bs) h = refl

-- where nothing is shown, nothing is with more bytes either; with `add_within` this is all of `add` for a page, with
-- no case of its own for no bytes
pub add_none : (bs : List ℕ) → add None bs ≡ None
unfolding add
add_none [] = refl
add_none (b ∷ bs) = refl

-- of bytes that a page can hold nothing is shown once too many are added, since these are never no bytes
pub add_beyond : (xs bs : List ℕ) → length xs ≤ limit → limit < length xs + length bs → add (Some xs) bs ≡ None
add_beyond xs bs few h = add_full xs bs (omega arith) h

-- one byte or more leaves no more than a page can hold, whatever was shown
pub within_some : (o : Option (List ℕ)) (b : ℕ) (bs : List ℕ) → Within (add o (b ∷ bs))
unfolding add
within_some None b bs = tt
within_some (Some xs) b bs =
    cond_both (leb (length xs + length (b ∷ bs)) limit) (Some (xs ++ b ∷ bs)) None Within
    (λ e. simp length-append (leb-true (length xs + length (b ∷ bs)) limit e)) (λ e. tt)

-- and so does any number of bytes where no more was shown
pub within_add : (o : Option (List ℕ)) (bs : List ℕ) → Within o → Within (add o bs)
unfolding add
within_add o [] h = h
within_add o (b ∷ bs) h = within_some o b bs

-- one lot after the other is both at once
pub add-add : (o : Option (List ℕ)) (a b : List ℕ) → add (add o a) b ≡ add o (a ++ b)
unfolding add
add-add o [] b = refl
add-add o (x ∷ a) [] = ap (λ l. add o (x ∷ l)) (sym (append-nil a))
add-add None (x ∷ a) (y ∷ b) = refl
add-add (Some xs) (x ∷ a) (y ∷ b) =
    elim (leb_tells (length xs + length (x ∷ a)) limit) [
      | inl h ↦ rw (h.0, append_assoc xs (x ∷ a) (y ∷ b), length-append xs (x ∷ a), length-append a (y ∷ b))
          (ap (λ n. cond (leb n limit) (Some (xs ++ x ∷ (a ++ y ∷ b))) None) (omega arith))
      | inr h ↦ rw h.0 (sym (add_full xs (x ∷ a ++ y ∷ b) (omega arith) (simp length-append (omega arith))))
    ]

-- no bytes more
pub add_nothing : (o : Option (List ℕ)) → add o [] ≡ o
unfolding add
add_nothing o = refl

-- two calls, one after the other
pub then_add : (o p q : Option (List ℕ)) (a b : List ℕ) → p ≡ add o a → q ≡ add p b → q ≡ add o (a ++ b)
then_add o p q a b e f = f ∙ ap (λ x. add x b) e ∙ add-add o a b

-- a loop that prints: one part is printed, and the rest is left
pub add_step : (o p : Option (List ℕ)) (a rest whole : List ℕ) → p ≡ add o a → whole ≡ a ++ rest
    → add p rest ≡ add o whole
add_step o p a rest whole e f = ap (λ x. add x rest) e ∙ add-add o a rest ∙ ap (add o) (sym f)

-- nothing is left
pub add_done : (o : Option (List ℕ)) (rest : List ℕ) → rest ≡ [] → o ≡ add o rest
add_done o rest e = sym (add_nothing o) ∙ ap (add o) (sym e)

-- for the goals of what prints: lots added one after the other, a list of lots, numbers digit by digit, and that the
-- bytes stay within the limit
pub ruleset printing = (
  common_steps,
  add-add,
  add_nothing,
  flat_map-append,
  decimal_digit,
  decimal_step,
  within_some,
  within_add,
)
