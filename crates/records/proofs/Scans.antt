-- What one byte more tells of the record that is being read.
use Rattle.std.proofs.Common.{◌≡◌, ℕ, ◌+◌, ◌-◌, ◌<◌, Bool, true, false, ◌&&◌, ◌||◌, eqb, List, [], ◌∷◌, ◌++◌, length, get_or, take, drop, sym, refl, ap, ◌∙◌, subst, append_assoc, append-nil, arith}
use Rattle.std.proofs.lemmas.Bool.{and_left, and_right, ne_eqb}
use Rattle.std.proofs.lemmas.Grind.{common_steps}
use Rattle.std.proofs.lemmas.List.{at_drop_more, at_drop_all, take_more, drop-drop, get_or-drop, get_or_past, length-drop, take-append-drop, take_all}
use Rattle.records.specs.declared.scan.Scan.TheVariants.{Text, AfterCr, Ended}
use Rattle.records.specs.Scanned.{CutAt, Cuts, Held, Scanned, Steps, Within}
use Rattle.records.specs.Texts.{ahead, broken, records, stray}
use Rattle.records.proofs.Stretches.{ahead_none, ahead_push, records_crlf, records_on, records_some}

ahead-records : (xs : List ℕ) → 0 < length xs → records xs ≡ ahead [] (records xs)
ahead-records [] h = absurd (omega arith)
ahead-records (b ∷ rest) h = sym (ahead_none (records (b ∷ rest)) (records_some b rest))

-- one byte more
pub broken_more : (xs : List ℕ) (at : ℕ) → at < length xs
    → broken (take (at + 1) xs) ≡ (broken (take at xs) || stray (get_or xs at 0))
broken_more xs at h = grind (arith, common_steps)

module _ (left : List ℕ) where
  -- nothing is read yet
  pub within_none : 0 < length left → Within left 0 false
  within_none h = record { goes_on = ahead-records left h; judged = refl }

  -- a byte that does not begin a CRLF belongs to the record
  within_more : (at : ℕ) (s t : Bool) → at < length left
      → (eqb (get_or left at 0) 13 && eqb (get_or left (at + 1) 0) 10) ≡ false
      → t ≡ (s || stray (get_or left at 0)) → Within left at s → Within left (at + 1) t
  within_more at s t h bare e w =
      let next = get_or left at 0 in
      let rest = drop (at + 1) left in
      let same : get_or rest 0 0 ≡ get_or left (at + 1) 0 =
      get_or-drop (at + 1) left 0 0 ∙ ap (λ n. get_or left n 0) (omega arith) in
      let on = records_on next rest (ap (λ n. eqb next 13 && eqb n 10) same ∙ bare) in
      record {
        goes_on =
            w.goes_on ∙ ap (ahead (take at left)) (at_drop_more records left at 0 h ∙ on)
            ∙ ahead_push (take at left) next (records rest)
            ∙ ap (λ p. ahead p (records rest)) (sym (take_more left at 0 h));
        judged = e ∙ ap (λ x. x || stray next) w.judged ∙ sym (broken_more left at h);
      }

  -- a byte other than CR belongs to the record
  pub within_text : (at : ℕ) (s t : Bool) → at < length left → (get_or left at 0 ≡ 13 → ⊥)
      → t ≡ (s || stray (get_or left at 0)) → Within left at s → Within left (at + 1) t
  within_text at s t h other e w = within_more at s t h (and_left _ _ (ne_eqb _ 13 other)) e w

  -- a CR that no LF follows breaks the record
  pub within_cr : (at : ℕ) (s : Bool) → at < length left → (get_or left (at + 1) 0 ≡ 10 → ⊥)
      → Held left at s → Within left (at + 1) true
  within_cr at s h bare w =
      let cr = w.held in
      let bad : true ≡ (s || stray (get_or left at 0)) = grind (arith, common_steps) in
      within_more at s true h (and_right _ _ (ne_eqb _ 10 bare)) bad w.within

  -- a CR that an LF follows ends the record
  pub cut_crlf : (at : ℕ) (s : Bool) → at + 1 < length left → get_or left (at + 1) 0 ≡ 10
      → Held left at s → CutAt left at s
  cut_crlf at s h lf w =
      let rest = drop (at + 1 + 1) left in
      let cr : records (drop at left) ≡ records (13 ∷ drop (at + 1) left) =
      at_drop_more records left at 0 (omega arith) ∙ ap (λ b. records (b ∷ drop (at + 1) left)) w.held in
      let crlf : records (13 ∷ drop (at + 1) left) ≡ [] ∷ records rest =
      at_drop_more (λ xs. records (13 ∷ xs)) left (at + 1) 0 h ∙ ap (λ b. records (13 ∷ b ∷ rest)) lf
      ∙ records_crlf rest in
      record {
        first =
            w.within.goes_on ∙ ap (ahead (take at left)) (cr ∙ crlf)
            ∙ ap (λ p. p ∷ records rest) (append-nil (take at left))
            ∙ ap (λ n. take at left ∷ records (drop n left)) (omega arith);
        judged = w.within.judged;
      }

  -- two stretches of a text, and what stands behind them
  apart : (m n : ℕ) → left ≡ take m left ++ take n (drop m left) ++ drop (m + n) left
  apart m n =
      sym (take-append-drop m left) ∙ ap (λ xs. take m left ++ xs) (sym (take-append-drop n (drop m left)))
      ∙ sym (append_assoc (take m left) (take n (drop m left)) (drop n (drop m left)))
      ∙ ap (λ xs. take m left ++ take n (drop m left) ++ xs) (drop-drop n m left)

  -- behind a CRLF the rest begins
  pub cuts_crlf : {s : Bool} (last : ℕ) → last < length left → Scanned left (last + 1) (Ended s)
      → Cuts left (take (last - 1) left) (drop (last + 1) left) s
  cuts_crlf {s} last h (at, was, cut) =
      let size : last - 1 ≡ at = omega arith in
      rw (size, was) record {
        first = cut.first;
        judged = cut.judged;
        parts = (take 2 (drop at left), apart at 2);
        shorter = omega (arith, length-drop (at + 2) left);
      }

  -- where no byte is left, all of the text is the record
  pub cuts_all : {s : Bool} → 0 < length left → Within left (length left) s → Cuts left left [] s
  unfolding records
  cuts_all h w =
      let none : records (drop (length left) left) ≡ [] = at_drop_all records left (length left) (omega arith) in
      let all : take (length left) left ≡ left = take_all (length left) left (omega arith) in
      record {
        first = w.goes_on ∙ ap (ahead (take (length left) left)) none ∙ ap (λ r. r ∷ []) all;
        judged = w.judged ∙ ap broken all;
        parts = ([], sym (append-nil (left ++ []) ∙ append-nil left));
        shorter = h;
      }

  -- and a CR that ends it is bare
  pub cuts_cr : {s : Bool} → 0 < length left → Scanned left (length left) (AfterCr s) → Cuts left left [] true
  cuts_cr h (at, was, so) =
      let none : get_or left (at + 1) 0 ≡ 0 = get_or_past left (at + 1) 0 (omega arith) in
      let all = within_cr at _ (omega arith) (λ lf. omega arith) so in
      cuts_all h (subst (λ n. Within left n true) (sym was) all)

module _ (s : Bool) (b : ℕ) where
  -- a byte of the text, which is stray or not
  pub steps_text : (t : Bool) → (b ≡ 13 → ⊥) → t ≡ (s || stray b) → Steps (Text s) b (Text t)
  steps_text t other e left read h is going so =
      within_text left read s t h (λ cr. other (sym is ∙ cr)) (e ∙ ap (λ x. s || stray x) (sym is)) so

  -- the byte behind a CR: an LF ends the record
  pub steps_lf : b ≡ 10 → Steps (AfterCr s) b (Ended s)
  steps_lf lf left read h is going (at, was, so) =
      let next : get_or left (at + 1) 0 ≡ b = ap (λ n. get_or left n 0) (sym was) ∙ is in
      (at, omega arith, cut_crlf left at s (omega arith) (next ∙ lf) so)

  -- after another CR that one was bare
  pub steps_again : b ≡ 13 → Steps (AfterCr s) b (AfterCr true)
  steps_again cr left read h is going (at, was, so) =
      let next : get_or left (at + 1) 0 ≡ b = ap (λ n. get_or left n 0) (sym was) ∙ is in
      let bare = within_cr left at s (omega arith) (λ lf. omega arith) so in
      (at + 1, omega arith, record { within = bare; held = next ∙ cr })

  -- and after any other byte
  pub steps_bare : (b ≡ 13 → ⊥) → (b ≡ 10 → ⊥) → Steps (AfterCr s) b (Text true)
  steps_bare cr lf left read h is going (at, was, so) =
      let next : get_or left (at + 1) 0 ≡ b = ap (λ n. get_or left n 0) (sym was) ∙ is in
      let bare = within_cr left at s (omega arith) (λ k. lf (sym next ∙ k)) so in
      let text = within_text left (at + 1) true true (omega arith) (λ k. cr (sym next ∙ k)) refl bare in
      subst (λ n. Within left (n + 1) true) (sym was) text
