-- A whole check worked: the list of the asked line is right, and witnesses name earlier ones.
use Rattle.std.proofs.Common.{◌≡◌, ℕ, suc, ◌+◌, ◌<◌, ◌≤◌, Bool, true, List, [], ◌∷◌, ◌++◌, length, get_or, Ok, sym, refl, ap, ◌∙◌, subst, add-zero, zero-add, arith}
use native.Mathlib.Decide.{ℕ_discrete}
use Rattle.flow.specs.Facts.{Ordered}
use Rattle.flow.specs.Graph.{Graph}
use Rattle.flow.specs.Line.{Line}
use Rattle.kinds.specs.Consequences.{Consequences}
use Rattle.kinds.specs.Model.{Model}
use Rattle.rows.specs.declared.row.Row.{Row}
use Rattle.rows.specs.declared.witness.Witness.{Witness}
use Rattle.logic.specs.Formulas as formula_of
use Rattle.logic.specs.Formulas.{Formula, earlier, formula, read, read_on}
use Rattle.logic.specs.Outcomes.{Outcome}
use Rattle.logic.specs.Promises.{NameableLabels}
use Rattle.logic.specs.Reached.{line_at, reached}
use Rattle.logic.specs.Working.{
  Answer,
  Checks,
  Work,
  WorksAll,
  answered,
  done,
  list,
  nothing_worked,
  passed,
  stopped,
  with_rows,
  worked,
}
use Rattle.logic.proofs.Extending.{all_extends, works_extends}
use Rattle.logic.proofs.Flags.{not_both}
use Rattle.logic.proofs.Forming.{Extends, extends_refl}
use Rattle.logic.proofs.Grounded.{Grounded}
use Rattle.logic.proofs.Growing.{grounded_none}
use Rattle.logic.proofs.Lines as lines
use Rattle.logic.proofs.Reaching.{Wanting, reached-asked, wanting_from}
use Rattle.logic.proofs.Ready.{Ready}
use Rattle.logic.proofs.Right.{Right}
use Rattle.logic.proofs.Sound.{sound_more}
use Rattle.logic.proofs.Thens.{err_ok, ok_inj, then_made}
use Rattle.std.proofs.lemmas.List.{get_or_append_left, get_or_push, length-append}

module _ {B : Type 0} (m : Model B) (laws : Consequences m) (g : Graph) (limit : ℕ) (nameable : NameableLabels m g)
    (wanted : ℕ → Bool) where
  -- the rows are ready for the formula, with the witnesses so far
  abbrev ReadyIn : Work B → List (Witness B) → Formula → List (Row B) → Type 1
  ReadyIn w ws φ rows = Ready m laws g limit nameable ws (length w.witnesses) φ rows

  -- how far a check has come: each wanted line so far has its list
  record SoFar (w : Work B) (fs : List Formula) (ws : List (Witness B)) : Type 1 where
    count : length w.lists ≡ length fs
    ready : (a : ℕ) → a < length fs → wanted a ≡ true → ReadyIn w ws (earlier fs a) (list w a)
    grounded : Grounded m w.witnesses

  -- one line more, whose list is ready if it is wanted
  so_far_more : (w next : Work B) (fs : List Formula) (φ : Formula) (ws : List (Witness B)) (rows : List (Row B))
      → SoFar w fs ws → next.lists ≡ w.lists ++ rows ∷ [] → Extends w.witnesses next.witnesses
      → Grounded m next.witnesses → (wanted (length fs) ≡ true → ReadyIn next ws φ rows)
      → SoFar next (fs ++ φ ∷ []) ws
  so_far_more w next fs φ ws rows so lists extends grounded own =
      let sums = length-append w.lists (rows ∷ []) in
      let sums' = length-append fs (φ ∷ []) in
      let longer = ap length lists in
      let count = so.count in
      record {
        count = omega arith;
        ready = λ a l t. step a l t (ℕ_discrete a (length fs));
        grounded = grounded;
      }
    where
      grown : length w.witnesses ≤ length next.witnesses
      grown =
          let sum = length-append w.witnesses extends.0 in
          let same = ap length extends.1 in
          omega arith

      step : (a : ℕ) → a < length (fs ++ φ ∷ []) → wanted a ≡ true → Dec (a ≡ length fs)
          → ReadyIn next ws (earlier (fs ++ φ ∷ []) a) (list next a)
      step a l t (yes e) =
          let φ_at : earlier (fs ++ φ ∷ []) a ≡ φ = get_or_push fs φ (formula_of.predicate 0 []) a (sym e) in
          let rows_at : list next a ≡ rows =
          ap (λ (z : List (List (Row B))). get_or z a []) lists
          ∙ get_or_push w.lists rows [] a (so.count ∙ sym e) in
          subst (λ (ψ : Formula). ReadyIn next ws ψ (list next a)) (sym φ_at)
          (subst (λ (z : List (Row B)). ReadyIn next ws φ z) (sym rows_at)
          (own (ap wanted (sym e) ∙ t)))
      step a l t (no d) =
          let sum = length-append fs (φ ∷ []) in
          let k : a < length fs = omega arith in
          let count = so.count in
          let k' : a < length w.lists = omega arith in
          let φ_at = get_or_append_left fs (φ ∷ []) (formula_of.predicate 0 []) a k in
          let rows_at : list next a ≡ list w a =
          ap (λ (z : List (List (Row B))). get_or z a []) lists
          ∙ get_or_append_left w.lists (rows ∷ []) [] a k' in
          let old = so.ready a k t in
          subst (λ (ψ : Formula). ReadyIn next ws ψ (list next a)) (sym φ_at)
          (subst (λ (z : List (Row B)). ReadyIn next ws (earlier fs a) z) (sym rows_at)
          (record { is_right = old.is_right; is_sound = sound_more m laws grown old.is_sound }))

  -- all lines worked
  so_far_all : {w : Work B} {ls : List Line} {out : Outcome (Work B)} → WorksAll m g limit wanted w ls out
      → (end : Work B) → out ≡ Ok end → (fs : List Formula) → SoFar w fs end.witnesses
      → Wanting wanted (length fs) ls → SoFar end (read_on fs ls) end.witnesses
  so_far_all (done {w = w}) end e fs so wants =
      subst (λ (z : Work B). SoFar z fs end.witnesses) (ok_inj e) so
  so_far_all (passed {w = w} {l = l} {ls = ls} n rest) end e fs so wants =
      let sum = length-append fs (read fs l ∷ []) in
      let at : suc (length fs) ≡ length (fs ++ read fs l ∷ []) = omega arith in
      so_far_all rest end e (fs ++ read fs l ∷ [])
      (so_far_more w (with_rows w []) fs (read fs l) end.witnesses [] so refl (extends_refl w.witnesses)
      so.grounded (λ t. absurd (not_both (ap wanted so.count ∙ t) n)))
      (subst (λ (k : ℕ). Wanting wanted k ls) at wants.1)
  so_far_all (worked {w = w} {next = next} {l = l} {ls = ls} y works rest) end e fs so wants =
      let sum = length-append fs (read fs l ∷ []) in
      let at : suc (length fs) ≡ length (fs ++ read fs l ∷ []) = omega arith in
      let want = wants.0 (ap wanted (sym so.count) ∙ y) in
      let later = all_extends m laws g limit nameable wanted rest end e in
      let one = lines.worked m laws g limit nameable w next fs end.witnesses so.grounded l (length fs) want.0
      works later (λ a i. so.ready a (want.1 a i).0 (want.1 a i).1) in
      so_far_all rest end e (fs ++ read fs l ∷ [])
      (so_far_more w next fs (read fs l) end.witnesses one.rows so one.lists
      (works_extends m laws g limit nameable w next l works) one.grounded (λ t. one.ready))
      (subst (λ (k : ℕ). Wanting wanted k ls) at wants.1)
  so_far_all (stopped y works) end e fs so wants = absurd (err_ok e)

-- there are as many formulas as lines
length_read : (fs : List Formula) (ls : List Line) → length (read_on fs ls) ≡ length fs + length ls
length_read fs [] = sym (add-zero (length fs))
length_read fs (l ∷ ls) =
    let rest = length_read (fs ++ read fs l ∷ []) ls in
    let sum = length-append fs (read fs l ∷ []) in
    omega arith

module _ {B : Type 0} (m : Model B) (laws : Consequences m) (g : Graph) (limit : ℕ) (nameable : NameableLabels m g)
    (ls : List Line) (ordered : Ordered ls) where
  module _ (asked : ℕ) (small : asked < length ls) {a : Answer B} (checks : Checks m g limit ls asked (Ok a)) where
    -- the whole check, seen from its end
    whole : (end : Work B) × (a ≡ answered m g limit asked end)
        × SoFar m laws g limit nameable (reached ls asked) end (read_on [] ls) end.witnesses
    whole =
        let b = then_made checks.end (answered m g limit asked) checks.comes_to in
        let end = b.0 in
        let start : SoFar m laws g limit nameable (reached ls asked) nothing_worked [] end.witnesses =
        record { count = refl; ready = λ i l. absurd (omega arith); grounded = grounded_none m laws } in
        let wants = wanting_from ls ordered asked 0 ls (λ k. ap (line_at ls) (sym (zero-add k)))
        (omega (arith, zero-add (length ls))) in (
          end,
          b.2,
          so_far_all m laws g limit nameable (reached ls asked) checks.works end b.1 [] start wants,
        )

    -- the rows of an answer are right for the formula that was asked
    pub answer_right : Right m g a.witnesses (formula ls asked) a.rows
    unfolding formula
    answer_right =
        let end = whole.0 in
        let so = whole.2 in
        let count = length_read [] ls in
        let inside : asked < length (read_on [] ls) = omega arith in
        subst (λ (z : Answer B). Right m g z.witnesses (formula ls asked) z.rows) (sym whole.1)
        (so.ready asked inside (reached-asked ls ordered asked)).is_right

    -- and its witnesses name earlier ones
    pub answer_grounded : Grounded m a.witnesses
    answer_grounded = subst (λ (z : Answer B). Grounded m z.witnesses) (sym whole.1) whole.2.grounded
