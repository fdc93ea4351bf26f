-- The fields of a record, one after the other, and the search for the comma behind one.
use Rattle.std.proofs.Common.{◌≡◌, ℕ, zero, suc, ◌+◌, ◌-◌, ◌<◌, ◌≤◌, Bool, false, true, cond, ltb, not, List, [], ◌∷◌, length, take, drop, Option, Some, None, unwrap_or, Bor, Iter, sym, refl, ap, subst, ◌∙◌, inl, inr, arith, ◌==◌}
use denote.Param.Members.{Mut}
use Rattle.std.proofs.lemmas.Bool.{cases_lt, le-leb, lt-leb}
use Rattle.std.proofs.lemmas.List.{drop-drop, length-drop, take_all}
use Rattle.std.proofs.lemmas.List.Elements.{All-from_get_or}
use Rattle.std.proofs.lemmas.List.Splits.{slice_split_first, slice_split_none}
use Rattle.std.proofs.lemmas.List.Sums.{fails_before_first, prefix_len-le-length}
use Rattle.std.specs.Fn.{CalledAt}
use Rattle.std.specs.Iterator.{FindsItem, Yields}
use Rattle.std.specs.List.{FoldsTo, position_or_len, slice_get}
use Rattle.std.specs.Option.{MatchOption}
use Rattle.std.specs.Slice.Iter.{iter_rest, iter_steps}
use Rattle.records.specs.Texts.{fields}

-- where the first field ends
abbrev pub end : List ℕ → ℕ
end text = position_or_len (λ b. b == 44) text

module _ (text : List ℕ) where
  pub end_within : end text ≤ length text
  end_within = prefix_len-le-length (λ b. not (b == 44)) text

  -- the place of the first comma, or the length where there is none
  pub end_found : unwrap_or (cond (ltb (end text) (length text)) (Some (end text)) None) (length text) ≡ end text
  end_found =
      let within = end_within in
      elim (cases_lt (end text) (length text)) [
        | inl h ↦ rw (le-leb (suc (end text)) (length text) (omega arith)) refl
        | inr h ↦ rw (lt-leb (suc (end text)) (length text) (omega arith)) (omega arith)
      ]

  -- a text with no comma is one field
  fields_one : length text ≤ end text → fields text ≡ text ∷ []
  fields_one h =
      slice_split_none (λ b. b == 44) text
      (All-from_get_or (λ b. (b == 44) ≡ false) text 0
      (λ i k. fails_before_first (λ b. b == 44) text i 0 (omega arith)))

  -- the first field
  pub field_first : slice_get (fields text) 0 ≡ Some (take (end text) text)
  field_first =
      elim (cases_lt (end text) (length text)) [
        | inl h ↦ ap (λ fs. slice_get fs 0) (slice_split_first (λ b. b == 44) text 0 h)
        | inr h ↦ ap (λ fs. slice_get fs 0) (fields_one h) ∙ ap (λ t. Some t) (sym (take_all (end text) text h))
      ]

  -- the others stand behind its comma
  pub field_next : (n : ℕ) → 0 < n → end text < length text
      → slice_get (fields text) n ≡ slice_get (fields (drop (end text + 1) text)) (n - 1)
  field_next zero some h = absurd (omega arith)
  field_next (suc k) some h =
      let e : k ≡ suc k - 1 = omega arith in
      ap (λ fs. slice_get fs (suc k)) (slice_split_first (λ b. b == 44) text 0 h)
      ∙ ap (slice_get (fields (drop (end text + 1) text))) e

  -- where there is no comma, there are none
  pub field_last : (n : ℕ) → 0 < n → length text ≤ end text → slice_get (fields text) n ≡ None
  field_last zero some h = absurd (omega arith)
  field_last (suc k) some h = ap (λ fs. slice_get fs (suc k)) (fields_one h)

-- what is left at u stands behind the first comma of what was left at s, where there is one
abbrev pub Behind : Iter ℕ → Iter ℕ → Type 0
Behind s u =
    (end (iter_rest s) < length (iter_rest s)) × (iter_rest u ≡ drop (end (iter_rest s) + 1) (iter_rest s))

-- the search for a comma, from the bytes that are left at s to those that are left at u
module _ {F : Type 0} {g : Mut F (Bor (Bor ℕ) × Unit {0}) Bool} (f : F)
    (told : (x : Bor ℕ) (b : Bool) (q : F) → CalledAt g f x b q → (q ≡ f) × (b ≡ (x.now == 44))) where
  -- it passes over what is no comma
  passed : (xs : List (Bor ℕ)) (s t : Iter ℕ) (j : F) → Yields iter_steps s xs t
      → FoldsTo (λ p x q. CalledAt g p x false q) f xs j
      → (j ≡ f) × (iter_rest t ≡ drop (length xs) (iter_rest s)) × (end (iter_rest s) ≡ length xs + end (iter_rest t))
  passed [] s t j same folds =
      let none = ap (λ u. end (iter_rest u)) same in
      (sym folds, ap iter_rest (sym same), omega (arith, none))
  passed (x ∷ xs) s t j (m, one, more) (q, goes, folds) =
      let here = told x false q goes in
      let on = passed xs m t j more (subst (λ p. FoldsTo (λ p x q. CalledAt g p x false q) p xs j) here.0 folds) in
      let first = ap end one ∙ ap (λ b. cond (not b) (1 + end (iter_rest m)) 0) (sym here.1) in
      (on.0, on.1 ∙ ap (drop (length (x ∷ xs))) (sym one), omega (arith, first, on.2))

  -- and stops at the first one, or at the end
  stops : (s u : Iter ℕ) (r : Option (Bor ℕ)) → FindsItem iter_steps g s f r u
      → MatchOption r (length (iter_rest s) ≤ end (iter_rest s)) (λ _. Behind s u)
  stops s u None (xs, j, (t, ys, last), folds, _) =
      let all = passed xs s t j ys folds in
      let size = ap length all.1 ∙ length-drop (length xs) (iter_rest s) in
      omega (arith, all.2, size, last.0)
  stops s u (Some x) (xs, j, (t, ys, one), folds, (h, stop)) =
      let all = passed xs s t j ys folds in
      let size = ap length all.1 ∙ length-drop (length xs) (iter_rest s) in
      let comma = (told x true h (subst (λ p. CalledAt g p x true h) all.0 stop)).1 in
      let here = ap end one ∙ ap (λ b. cond (not b) (1 + end (iter_rest u)) 0) (sym comma) in
      let left = ap length one in
      let at : length xs ≡ end (iter_rest s) = omega (arith, all.2, here) in
      let behind = ap (drop 1) (sym one) ∙ ap (drop 1) all.1 ∙ drop-drop 1 (length xs) (iter_rest s) in
      (omega (arith, at, size, left), behind ∙ ap (λ k. drop (k + 1) (iter_rest s)) at)

  -- what was found is the first comma
  pub comma_found : (s u : Iter ℕ) (r : Option (Bor ℕ)) (x : Bor ℕ) → FindsItem iter_steps g s f r u → r ≡ Some x
      → Behind s u
  comma_found s u r x ran is = stops s u (Some x) (subst (λ o. FindsItem iter_steps g s f o u) is ran)

  -- and where nothing was, there is none
  pub no_comma : (s u : Iter ℕ) (r : Option (Bor ℕ)) → FindsItem iter_steps g s f r u → r ≡ None
      → length (iter_rest s) ≤ end (iter_rest s)
  no_comma s u r ran is = stops s u None (subst (λ o. FindsItem iter_steps g s f o u) is ran)
