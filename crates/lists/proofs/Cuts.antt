-- Rows cut into lists: what each list is, and what writes of rows and lengths do.
use Rattle.std.proofs.Common.{◌≡◌, ℕ, zero, suc, ◌+◌, ◌*◌, ◌<◌, ◌≤◌, List, [], ◌∷◌, ◌++◌, length, get_or, take, drop, set, replicate, sym, refl, ap, ◌∙◌, suc-mul, zero-mul, arith}
use Rattle.lists.specs.Lent.{cut}
use Rattle.std.proofs.lemmas.List.{drop-drop, drop-set-add, drop-set-lt, length-drop, length-take-le, take_more_set, take-set-le}

module _ {A : Type 0} (limit : ℕ) where
  pub length_cut : (ns : List ℕ) (rows : List A) → length (cut limit ns rows) ≡ length ns
  length_cut [] rows = refl
  length_cut (n ∷ ns) rows = ap suc (length_cut ns (drop limit rows))

  -- a list begins where its stretch does
  pub at_cut : (ns : List ℕ) (rows : List A) (i : ℕ) → i < length ns
      → get_or (cut limit ns rows) i [] ≡ take (get_or ns i 0) (drop (i * limit) rows)
  at_cut [] rows i h = absurd (omega arith)
  at_cut (n ∷ ns) rows zero h = ap (λ k. take n (drop k rows)) (sym (zero-mul limit))
  at_cut (n ∷ ns) rows (suc i) h =
      let there : limit + i * limit ≡ suc i * limit = omega (arith, suc-mul i limit) in
      at_cut ns (drop limit rows) i (omega arith)
      ∙ ap (take (get_or ns i 0)) (drop-drop (i * limit) limit rows ∙ ap (λ k. drop k rows) there)

  module _ (ns : List ℕ) (rows : List A) (i : ℕ) (inside : i < length ns) where
    -- a list has as many rows as its length says
    pub length_at_cut : i * limit + get_or ns i 0 ≤ length rows → length (get_or (cut limit ns rows) i []) ≡ get_or ns i 0
    length_at_cut fits =
        ap length (at_cut ns rows i inside)
        ∙ length-take-le (get_or ns i 0) (drop (i * limit) rows) (simp length-drop (omega arith))

  -- a list of length 0 is empty
  pub cut_clear : (ns : List ℕ) (rows : List A) (i : ℕ) → cut limit (set ns i 0) rows ≡ set (cut limit ns rows) i []
  cut_clear [] rows i = refl
  cut_clear (n ∷ ns) rows zero = refl
  cut_clear (n ∷ ns) rows (suc i) = ap (λ lists. take n rows ∷ lists) (cut_clear ns (drop limit rows) i)

  -- a row written behind a list that is made one longer is its last
  pub cut_push : (ns : List ℕ) (rows : List A) (i : ℕ) (r : A) → i < length ns → ((j : ℕ) → get_or ns j 0 ≤ limit)
      → get_or ns i 0 < limit → i * limit + get_or ns i 0 < length rows
      → cut limit (set ns i (get_or ns i 0 + 1)) (set rows (i * limit + get_or ns i 0) r)
      ≡ set (cut limit ns rows) i (get_or (cut limit ns rows) i [] ++ r ∷ [])
  cut_push [] rows i r inside within room fits = absurd (omega arith)
  cut_push (n ∷ ns) rows zero r inside within room fits =
      let here : zero * limit + n ≡ n = omega (arith, zero-mul limit) in
      let before : n < length rows = omega arith in
      rw (here, take_more_set rows n r before, drop-set-lt limit rows n r room)
  cut_push (n ∷ ns) rows (suc i) r inside within room fits =
      let place = i * limit + get_or ns i 0 in
      let below : n ≤ limit = within 0 in
      let there : suc i * limit + get_or ns i 0 ≡ limit + place = omega (arith, suc-mul i limit) in
      let past : n ≤ limit + place = omega arith in
      let fits' : place < length (drop limit rows) = simp length-drop (omega arith) in
      let above : i < length ns = omega arith in
      rw (there, take-set-le n rows (limit + place) r past, drop-set-add limit rows place r)
      (ap (λ lists. take n rows ∷ lists) (cut_push ns (drop limit rows) i r above (λ j. within (suc j)) room fits'))

  pub cut_none : (n : ℕ) (rows : List A) → cut limit (replicate n 0) rows ≡ replicate n []
  cut_none zero rows = refl
  cut_none (suc n) rows = ap (λ lists. [] ∷ lists) (cut_none n (drop limit rows))

pub getD_zeros : (n i : ℕ) → get_or {A = ℕ} (replicate n 0) i 0 ≡ 0
getD_zeros zero i = refl
getD_zeros (suc n) zero = refl
getD_zeros (suc n) (suc i) = getD_zeros n i

-- each of so many zeros is within any limit
pub zeros_within : (n limit i : ℕ) → get_or {A = ℕ} (replicate n 0) i 0 ≤ limit
zeros_within n limit i = rw (getD_zeros n i) (omega arith)
