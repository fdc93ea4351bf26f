-- The edges that closing adds.
use Rattle.std.proofs.Common.{◌≡◌, ℕ, zero, suc, ◌+◌, ◌<◌, ◌≤◌, Bool, true, false, cond, ◌||◌, eqb, List, [], ◌∷◌, ◌++◌, length, sym, refl, ap, ◌∙◌, inl, inr, append_assoc, append-nil, not-suc-le-zero, add-one, arith, length-append}
use Rattle.flow.specs.Closed.{closed, leaves, loop, loops}
use Rattle.flow.specs.Graph.{Graph}
use Rattle.flow.specs.Limits.{most_edges}
use Rattle.flow.specs.Sound.{Joined, Sound, SoundClosed}
use Rattle.std.specs.List.{AllByRecursion}
use Rattle.flow.proofs.Soundness.{all_append}
use Rattle.flow.specs.declared.edge.Edge.{Edge}
use Rattle.std.proofs.lemmas.Bool.{cases_Bool, cases_lt, cond_both, eq-eqb, or_from, or_left, or_right}
use Rattle.std.proofs.lemmas.Bool.Decides.{nat_tests}
use Rattle.std.proofs.lemmas.List.Folds.{list_any-append}

module _ (es : List Edge) where
  -- one state more
  loops_more : (s : ℕ) (t : Bool) → leaves es s ≡ t
      → es ++ loops es (s + 1) ≡ (es ++ loops es s) ++ cond t [] (record { from = s; to = s } ∷ [])
  loops_more s t e =
      ap (λ n. es ++ loops es n) (add-one s) ∙ sym (append_assoc es (loops es s) (loop es s))
      ∙ ap (λ b. (es ++ loops es s) ++ cond b [] (record { from = s; to = s } ∷ [])) e

  -- it has no outgoing edge, and gets one
  pub loops_push : (s : ℕ) → leaves es s ≡ false
      → es ++ loops es (s + 1) ≡ (es ++ loops es s) ++ record { from = s; to = s } ∷ []
  loops_push s e = loops_more s false e

  -- it has one
  pub loops_skip : (s : ℕ) → leaves es s ≡ true → es ++ loops es (s + 1) ≡ es ++ loops es s
  loops_skip s e = loops_more s true e ∙ append-nil (es ++ loops es s)

  -- at most one edge for each state
  pub length-loops : (n : ℕ) → length (loops es n) ≤ n
  length-loops zero = omega arith
  length-loops (suc n) =
      let most : length (loop es n) ≤ 1 = cond_both (leaves es n) [] (_ ∷ []) (λ l. length l ≤ 1) (λ e. omega arith)
      (λ e. omega arith) in
      let rest = length-loops n in
      simp length-append (omega arith)

  -- none of them leaves from a later state
  loop_later : (n s : ℕ) → n < s → leaves (loop es n) s ≡ false
  loop_later n s h = cond_both (leaves es n) [] (_ ∷ []) (λ l. leaves l s ≡ false) (λ e. refl)
      (λ e. grind (arith, nat_tests))

  loops_later : (n s : ℕ) → n ≤ s → leaves (loops es n) s ≡ false
  loops_later zero s h = refl
  loops_later (suc n) s h =
      list_any-append (λ e. eqb e.from s) (loops es n) (loop es n)
      ∙ or_from (leaves (loops es n) s) (leaves (loop es n) s) (loops_later n s (omega arith))
      (loop_later n s (omega arith))

  -- so a state has an outgoing edge before its turn exactly where one was drawn
  pub leaves_before : (s : ℕ) → leaves (es ++ loops es s) s ≡ leaves es s
  leaves_before s =
      list_any-append (λ e. eqb e.from s) es (loops es s)
      ∙ ap (λ t. leaves es s || t) (loops_later s s (omega arith)) ∙ or-false (leaves es s)
    where
      or-false : (t : Bool) → (t || false) ≡ t
      or-false true = refl
      or-false false = refl

  -- they join states
  joined-loops : (m n : ℕ) → n ≤ m → AllByRecursion (Joined m) (loops es n)
  joined-loops m zero h = tt
  joined-loops m (suc n) h =
      let rest = joined-loops m n (omega arith) in
      let last : AllByRecursion (Joined m) (loop es n) = cond_both (leaves es n) [] (_ ∷ [])
      (λ l. AllByRecursion (Joined m) l) (λ e. tt) (λ e. (record { from = omega arith; to = omega arith }, tt)) in
      all_append (Joined m) (loops es n) (loop es n) rest last

  -- each state has an outgoing edge after its turn
  leaves_loop : (s : ℕ) → leaves es s ≡ false → leaves (loop es s) s ≡ true
  leaves_loop s e = rw e (or_left (eqb s s) false (eq-eqb s s refl))

  leaves-loops : (n s : ℕ) → s < n → leaves es s ≡ false → leaves (loops es n) s ≡ true
  leaves-loops zero s h e = absurd (not-suc-le-zero h)
  leaves-loops (suc n) s h e =
      list_any-append (λ x. eqb x.from s) (loops es n) (loop es n)
      ∙ elim (cases_lt s n) [
        | inl k ↦ or_left (leaves (loops es n) s) (leaves (loop es n) s) (leaves-loops n s k e)
        | inr k ↦
            let here : s ≡ n = omega arith in
            or_right (leaves (loops es n) s) (leaves (loop es n) s)
            (ap (λ x. leaves (loop es x) s) (sym here) ∙ leaves_loop s e)
      ]

  leaves_after : (n s : ℕ) → s < n → leaves (es ++ loops es n) s ≡ true
  leaves_after n s h =
      list_any-append (λ x. eqb x.from s) es (loops es n)
      ∙ elim (cases_Bool (leaves es s)) [
        | inl e ↦ or_left (leaves es s) (leaves (loops es n) s) e
        | inr e ↦ or_right (leaves es s) (leaves (loops es n) s) (leaves-loops n s h e)
      ]

-- a sound draft is a sound case once it is closed
pub sound_once_closed : (g : Graph) → Sound most_edges g → SoundClosed (closed g)
sound_once_closed g s =
    let more = length-loops g.edges g.states in
    record {
      sound = record {
        few_states = s.few_states;
        few_edges = simp length-append (omega arith);
        few_labels = s.few_labels;
        joined = all_append (Joined g.states) g.edges (loops g.edges g.states) s.joined
            (joined-loops g.edges g.states g.states (omega arith));
        labelled = s.labelled;
      };
      leading = leaves_after g.edges g.states;
    }

-- what a walk through the states needs: the edges so far, and how many they are
pub ruleset closing = (leaves_before, loops_push, loops_skip, length-loops, length-append)
