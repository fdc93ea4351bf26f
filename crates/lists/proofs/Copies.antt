-- Rows copied in one go from the stretch of one list into that of another.
use Rattle.std.proofs.Common.{◌≡◌, ℕ, zero, suc, ◌+◌, ◌-◌, ◌*◌, ◌<◌, ◌≤◌, List, [], ◌∷◌, ◌++◌, length, get_or, take, drop, set, sym, ap, ◌∙◌, suc-mul, zero-mul, arith, length-append}
use Rattle.lists.specs.Lent.{cut}
use Rattle.std.proofs.Math.Seq.{paste}
use Rattle.std.proofs.lemmas.List.{drop-append-le, drop-drop, drop-take, length-drop, length-take-le, take-append-le, take-take}
use Rattle.std.proofs.lemmas.List.Edits.{drop-paste}

-- the first n of s are pasted over what d has from a place on
module _ {A : Type 0} (d s : List A) (n : ℕ) where
  -- what lies behind them is as it was
  drop_past : (place k : ℕ) → place + n ≤ k → place ≤ length d → n ≤ length s → drop k (paste d place s n) ≡ drop k d
  drop_past place k past inside fits =
      let more = k - (place + n) in
      let e : k ≡ (place + n) + more = omega (arith, past) in
      ap (λ j. drop j (paste d place s n)) e ∙ sym (drop-drop more (place + n) (paste d place s n))
      ∙ ap (drop more) (drop-paste d place s n inside fits)
      ∙ drop-drop more (place + n) d ∙ ap (λ j. drop j d) (sym e)

  module _ (place k : ℕ) (inside : place ≤ length d) (before : k ≤ place) where
    head : k ≤ length (take place d)
    head = omega (arith, length-take-le place d inside, before)

    heads : k ≤ length (take place d ++ take n s)
    heads = omega (arith, length-append (take place d) (take n s), head)

    -- what lies before them is as it was
    take_before : take k (paste d place s n) ≡ take k d
    take_before =
        take-append-le k (take place d ++ take n s) (drop (place + n) d) heads
        ∙ take-append-le k (take place d) (take n s) head ∙ take-take k place d before

  -- at the front they come first
  take_front : n ≤ length s → take n (paste d 0 s n) ≡ take n s
  take_front fits =
      take-append-le n (take n s) (drop (0 + n) d) (omega (arith, length-take-le n s fits))
      ∙ take-take n n s (omega arith)

  -- without what lies before them they are pasted into the rest
  drop_through : (k p : ℕ) → k + p ≤ length d → drop k (paste d (k + p) s n) ≡ paste (drop k d) p s n
  drop_through k p inside =
      let before : k ≤ k + p = omega arith in
      let rest : k + (p + n) ≡ (k + p) + n = omega arith in
      drop-append-le k (take (k + p) d ++ take n s) (drop ((k + p) + n) d) (heads (k + p) k inside before)
      ∙ ap (λ xs. xs ++ drop ((k + p) + n) d)
      (drop-append-le k (take (k + p) d) (take n s) (head (k + p) k inside before)
      ∙ ap (λ xs. xs ++ take n s) (drop-take k p d))
      ∙ ap (λ xs. (take p (drop k d) ++ take n s) ++ xs)
      (sym (drop-drop (p + n) k d ∙ ap (λ j. drop j d) rest))

-- rows pasted into the stretch of a list, which gets that length, are the list
pub cut_paste : {A : Type 0} (limit : ℕ) (ns : List ℕ) (rows s : List A) (i n : ℕ) → i < length ns
    → ((j : ℕ) → get_or ns j 0 ≤ limit) → n ≤ limit → n ≤ length s → i * limit + n ≤ length rows
    → cut limit (set ns i n) (paste rows (i * limit) s n) ≡ set (cut limit ns rows) i (take n s)
cut_paste limit [] rows s i n inside within small fits room = absurd (omega arith)
cut_paste limit (m ∷ ns) rows s zero n inside within small fits room =
    rw (zero-mul limit)
    (ap (λ xs. xs ∷ cut limit ns (drop limit (paste rows 0 s n))) (take_front rows s n fits)
    ∙ ap (λ xs. take n s ∷ cut limit ns xs) (drop_past rows s n 0 limit (omega arith) (omega arith) fits))
cut_paste limit (m ∷ ns) rows s (suc i) n inside within small fits room =
    let below : m ≤ limit = within 0 in
    let there : suc i * limit ≡ limit + i * limit = omega (arith, suc-mul i limit) in
    let room' : i * limit + n ≤ length (drop limit rows) = simp length-drop (omega (arith, there)) in
    rw there
    (ap (λ xs. xs ∷ cut limit (set ns i n) (drop limit (paste rows (limit + i * limit) s n)))
    (take_before rows s n (limit + i * limit) m (omega (arith, there)) (omega arith))
    ∙ ap (λ xs. take m rows ∷ cut limit (set ns i n) xs) (drop_through rows s n limit (i * limit) (omega (arith, there)))
    ∙ ap (λ lists. take m rows ∷ lists)
    (cut_paste limit ns (drop limit rows) s i n (omega arith) (λ j. within (suc j)) small fits room'))
