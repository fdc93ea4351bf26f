-- The table that lent rows stand for: its limit, its lists and where their rows lie.
use Rattle.std.proofs.Common.{◌≡◌, ℕ, suc, ◌+◌, ◌*◌, ◌<◌, ◌≤◌, List, length, get_or, set, take, drop, replicate, refl, sym, ap, ◌∙◌, ⊎_elim, mul-le-mul_right, suc-mul, arith}
use Rattle.lists.specs.Changes.{Puts}
use Rattle.lists.specs.Counts.{list_count}
use Rattle.lists.specs.Lent.{cut, room_for, table_in}
use Rattle.lists.specs.Tables.{at, no_rows}
use Rattle.lists.specs.declared.lists.Lists.{Lists}
use Rattle.lists.proofs.Cuts.{at_cut, cut_none, length_at_cut, length_cut}
use Rattle.std.proofs.lemmas.Nat.{mul-add-lt}
use Rattle.std.proofs.lemmas.List.{get_or-set_other, get_or-set_same, length-set}
use Rattle.std.proofs.lemmas.Bool.{cases_eq}

-- rows that suffice for as many as are wanted have room for them
pub room_all : {A : Type 0} (rows : List A) {limit : ℕ} → list_count * limit ≤ length rows → room_for rows limit ≡ limit
room_all rows fits = omega (arith, fits)

module _ {R : Type 0} (l : Lists R) where
  pub table_limit : (table_in l).limit ≡ l.limit
  unfolding table_in
  table_limit = refl

  -- a known list is one of the table's
  pub table_has : {i : ℕ} → i < list_count → i < length (table_in l).lists
  unfolding table_in
  table_has known = omega (arith, length_cut l.limit l.lengths l.rows.now, l.many)

  -- no list has a row yet
  pub table_none : l.lengths ≡ replicate list_count 0 → table_in l ≡ no_rows l.limit
  unfolding table_in
  table_none none =
      ap (λ lists. record { limit = l.limit; lists = lists })
      (ap (λ ns. cut l.limit ns l.rows.now) none ∙ cut_none l.limit list_count l.rows.now)

  module _ {i : ℕ} (known : i < list_count) where
    -- a list's stretch lies within the rows
    pub place_in : (k : ℕ) → k < l.limit → i * l.limit + k < length l.rows.now
    place_in k below = omega (arith, mul-add-lt i l.limit k list_count known below, l.lent)

    -- and so many rows of it
    pub rows_in : (n : ℕ) → n ≤ l.limit → i * l.limit + n ≤ length l.rows.now
    rows_in n small =
        let next : suc i ≤ list_count = omega arith in
        omega (arith, l.lent, small, mul-le-mul_right l.limit next, suc-mul i l.limit)

    -- and its rows too
    pub stretch : i * l.limit + get_or l.lengths i 0 ≤ length l.rows.now
    stretch = rows_in (get_or l.lengths i 0) (l.within i)

    -- a list is the first rows of its stretch
    pub at_table : at (table_in l) i ≡ take (get_or l.lengths i 0) (drop (i * l.limit) l.rows.now)
    unfolding table_in
    at_table = at_cut l.limit l.lengths l.rows.now i (omega (arith, l.many))

    pub length-at_table : length (at (table_in l) i) ≡ get_or l.lengths i 0
    unfolding table_in
    length-at_table = length_at_cut l.limit l.lengths l.rows.now i (omega (arith, l.many)) stretch

    -- a list with room has a place behind its last row
    pub end_place : length (at (table_in l) i) < l.limit → i * l.limit + get_or l.lengths i 0 < length l.rows.now
    end_place room = place_in (get_or l.lengths i 0) (omega (arith, length-at_table))

-- a list that is written leaves how many rows a list may have
pub puts_limit : {R : Type 0} {l l' : Lists R} {i : ℕ} {rows : List R} → Puts l l' i rows → l'.limit ≡ l.limit
puts_limit {l = l} {l' = l'} did = sym (table_limit l') ∙ ap (λ t. t.limit) did.puts ∙ table_limit l

-- a length that changes stays within the limit
pub within_set : (ns : List ℕ) (i n limit : ℕ) → ((j : ℕ) → get_or ns j 0 ≤ limit) → n ≤ limit → i < length ns
    → (j : ℕ) → get_or (set ns i n) j 0 ≤ limit
within_set ns i n limit within small inside j =
    ⊎_elim
    (λ (e : j ≡ i). rw (e, get_or-set_same ns i n 0 inside) small)
    (λ (other : j ≡ i → ⊥). rw (get_or-set_other ns i j n 0 other) (within j))
    (cases_eq j i)

-- the length of a list may become any number up to the limit
pub lengths_with : {R : Type 0} (l : Lists R) {i : ℕ} (n : ℕ) → i < list_count → n ≤ l.limit
    → ((j : ℕ) → get_or (set l.lengths i n) j 0 ≤ l.limit)
lengths_with l {i} n known small =
    let inside : i < length l.lengths = omega (arith, l.many) in
    within_set l.lengths i n l.limit l.within small inside

-- and there are as many lengths
pub lengths_many : {R : Type 0} (l : Lists R) (i n : ℕ) → length (set l.lengths i n) ≡ list_count
lengths_many l i n = length-set l.lengths i n ∙ l.many
