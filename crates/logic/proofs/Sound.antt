-- Sound rows: a box for each variable, and only witnesses that are there.
use Rattle.std.proofs.Common.{◌≡◌, ℕ, ◌<◌, ◌≤◌, Bool, true, false, cond, eqb, ◌⊎◌, List, [], ◌∷◌, length, Some, None, Option, sym, refl, ap, ◌∙◌, subst, inl, inr, arith, length-set}
use lib.ListN.{length-replicate}
use Rattle.flow.specs.Limits.{variables}
use Rattle.kinds.specs.Consequences.{Consequences}
use Rattle.kinds.specs.Member.{◌∈◌}
use Rattle.kinds.specs.Model.{Model}
use Rattle.rows.proofs.Members.{has-none, has-union}
use Rattle.rows.specs.Denials.{besides, denial, elsewhere}
use Rattle.rows.specs.Forests.{has, union}
use Rattle.rows.specs.Rows.{blank, box, join, meets, row_of, with_box}
use Rattle.rows.specs.declared.forest.Forest.{Forest}
use Rattle.rows.specs.declared.row.Row.{Row}
use Rattle.logic.specs.Operators.{met_with, moved, naming, narrowed, rewritten, states}
use Rattle.logic.proofs.Boxes.{front_parts}
use Rattle.logic.proofs.Flags.{not_both}
use Rattle.logic.proofs.Members.{from_append, from_cond, from_joined, from_map, from_one}
use Rattle.logic.proofs.Naming.{narrowed_parts}
use Rattle.logic.proofs.Pairing.{row_parts}
use Rattle.std.proofs.lemmas.Bool.{or_cases}
use Rattle.std.specs.List.{range_with_len, flat_map}

module _ {B : Type 0} (m : Model B) (laws : Consequences m) where
  -- a row has a box for each variable, and witnesses below n
  pub record Sound (n : ℕ) (r : Row B) : Type 0 where
    pub sized : length r.boxes ≡ variables
    pub known : (j : ℕ) → has r.forest j ≡ true → j < n

  pub record SoundRows (n : ℕ) (rows : List (Row B)) : Type 0 where
    pub each : (r : Row B) → r ∈ rows → Sound n r

  -- rows that are sound stay so as the table grows
  pub sound_more : {n k : ℕ} {rows : List (Row B)} → n ≤ k → SoundRows n rows → SoundRows k rows
  sound_more l s =
      record {
        each = λ r i. record {
          sized = (s.each r i).sized;
          known = λ j t. let h = (s.each r i).known j t in omega arith;
        };
      }

  -- the empty list is sound
  pub sound_none : {n : ℕ} → SoundRows n []
  sound_none = record { each = λ r i. elim i [ ] }

  -- blank rows are sound
  pub sound_blank : (n s : ℕ) → Sound n (blank m s)
  unfolding blank
  sound_blank n s =
      record { sized = length-replicate variables m.all; known = λ j t. absurd (not_both t (has-none j)) }

  -- a box in place of another leaves a row sound
  sound_box : {n : ℕ} {r : Row B} (x : ℕ) (b : B) → Sound n r → Sound n (with_box m r x b)
  sound_box {r = r} x b s = record { sized = length-set r.boxes x b ∙ s.sized; known = s.known }

  -- boxes that are met are as many as each of the two
  length_meets : (bs cs : List B) {ds : List B} (n : ℕ) → length bs ≡ n → length cs ≡ n → meets m bs cs ≡ Some ds
      → length ds ≡ n
  length_meets [] cs {ds} n p q e = let f : cs ≡ ds = cc in ap length (sym f) ∙ q
  length_meets (b ∷ bs) [] {ds} n p q e = let f : b ∷ bs ≡ ds = cc in ap length (sym f) ∙ p
  length_meets (b ∷ bs) (c ∷ cs) {ds} n p q e =
      let a = front_parts m (m.meet b c) (meets m bs cs) e in
      let r = length_meets bs cs (length bs) refl (omega arith) a.3 in
      let f = ap length a.4 in
      omega arith

  -- rows that join sound rows are sound
  pub sound_join : {n : ℕ} (p q : Row B) {r : Row B} → Sound n p → Sound n q → join m p q ≡ Some r → Sound n r
  unfolding join
  sound_join {n} p q {r} a b e = step (eqb p.state q.state) e
    where
      step : (c : Bool)
          → cond c (row_of m p.state (meets m p.boxes q.boxes) (union p.forest q.forest)) None ≡ Some r
          → Sound n r
      step false e = cc
      step true e =
          let k = row_parts m laws p.state (meets m p.boxes q.boxes) (union p.forest q.forest) e in
          let forest = ap (λ (x : Row B). x.forest) k.2 in
          record {
            sized = ap (λ (x : Row B). length x.boxes) k.2
                ∙ length_meets p.boxes q.boxes variables a.sized b.sized k.1;
            known = λ j t. elim (or_cases (has p.forest j) (has q.forest j)
                (sym (has-union p.forest q.forest j) ∙ (ap (λ (f : Forest). has f j) (sym forest) ∙ t))) [
                  | inl u ↦ a.known j u
                  | inr u ↦ b.known j u
                ];
          }

  -- rows with values named are sound where the row was
  pub sound_naming : {n : ℕ} (o : Option (Row B)) (xs ns : List ℕ) {q : Row B} → ((r : Row B) → o ≡ Some r → Sound n r)
      → naming m o xs ns ≡ Some q → Sound n q
  sound_naming None xs ns s e = cc
  sound_naming (Some r) [] [] s e = s _ e
  sound_naming (Some r) [] (n ∷ ns) s e = cc
  sound_naming (Some r) (x ∷ xs) [] s e = cc
  sound_naming {n = k} (Some r) (x ∷ xs) (n ∷ ns) s e =
      sound_naming (narrowed m r x (met_with m (box m r x) (m.one n))) xs ns (λ q f.
      let a = narrowed_parts m laws r x (met_with m (box m r x) (m.one n)) f in
      subst (λ (p : Row B). Sound k p) (sym a.2) (sound_box x a.0 (s r refl))) e

  -- the rows of a denial are sound
  pub sound_denial : (n states : ℕ) (t : Row B) → SoundRows n (denial m states t)
  unfolding denial
  sound_denial n states t =
      record { each = λ r i. step r (from_append (flat_map (elsewhere m t) (range_with_len 0 states)) i) }
    where
      own : (b : Bool) (u : ℕ) (r : Row B) → r ∈ cond b [] (blank m u ∷ []) → Sound n r
      own true u r i = elim i [ ]
      own false u r i = subst (λ (p : Row B). Sound n p) (sym (from_one i)) (sound_blank n u)

      step : (r : Row B)
          → (r ∈ flat_map (elsewhere m t) (range_with_len 0 states)) ⊎ (r ∈ flat_map (besides m t) (range_with_len 0 variables))
          → Sound n r
      step r (inl i) =
          let a = from_joined (elsewhere m t) (range_with_len 0 states) i in own (eqb a.0 t.state) a.0 r a.2
      step r (inr i) =
          let a = from_joined (besides m t) (range_with_len 0 variables) i in
          let b = from_map (λ c. with_box m (blank m t.state) a.0 c) _ a.2 in
          subst (λ (p : Row B). Sound n p) (sym b.2) (sound_box a.0 b.0 (sound_blank n t.state))

  -- rows that are rewritten stay sound
  pub sound_moved : {n : ℕ} (s t : ℕ) (rows : List (Row B)) → SoundRows n rows → SoundRows n (moved m s t rows)
  unfolding moved
  sound_moved {n} s t rows k =
      record {
        each = λ r i.
            let a = from_joined (rewritten m s t) rows i in
            let q = from_one (from_cond (eqb a.0.state t) _ a.2).1 in
            let old = k.each a.0 a.1 in
            subst (λ (p : Row B). Sound n p) (sym q) (record { sized = old.sized; known = old.known });
      }
