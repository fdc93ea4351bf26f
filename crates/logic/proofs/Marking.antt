-- Only lines that the asked line reaches are marked.
use Rattle.std.proofs.Common.{◌≡◌, ℕ, zero, suc, Bool, true, false, eqb, List, sym, refl, subst, inl, inr}
use Rattle.flow.specs.Facts.{Ordered}
use Rattle.flow.specs.Line.{Line}
use Rattle.std.specs.List.{list_any}
use Rattle.logic.specs.Promises.{ReachedLinesAreMarked}
use Rattle.logic.specs.Reached.{Reaches, itself, line_at, marked_below, marking, named, operands, reached}
use Rattle.logic.proofs.Members.{from_any}
use Rattle.logic.proofs.Reaching.{reached-asked, reached-operands}
use Rattle.std.proofs.lemmas.Bool.{eqb-true, or_cases}

module _ (ls : List Line) (asked : ℕ) where
  -- every mark is on a line that is reached
  abbrev Marked : (ℕ → Bool) → Type 0
  Marked marks = (i : ℕ) → marks i ≡ true → Reaches ls asked i

  -- a line that is reached marks lines that are reached
  marked_more : (n : ℕ) (b : Bool) (marks : ℕ → Bool) → marks n ≡ b → Marked marks
      → Marked (marking b (operands (line_at ls n)) marks)
  marked_more n false marks e all i t = all i t
  marked_more n true marks e all i t = elim (or_cases (marks i) (list_any (eqb i) (operands (line_at ls n))) t) [
    | inl own ↦ all i own
    | inr among ↦
        let a = from_any (eqb i) (operands (line_at ls n)) among in
        subst (λ (k : ℕ). Reaches ls asked k) (sym (eqb-true i a.0 a.2)) (named (all n e) a.1)
  ]

  marked_all : (n : ℕ) (marks : ℕ → Bool) → Marked marks → Marked (marked_below ls n marks)
  marked_all zero marks all = all
  marked_all (suc n) marks all =
      marked_all n (marking (marks n) (operands (line_at ls n)) marks) (marked_more n (marks n) marks refl all)

  from_reached : (i : ℕ) → reached ls asked i ≡ true → Reaches ls asked i
  unfolding reached
  from_reached i t =
      marked_all (suc asked) (eqb asked) (λ j e. subst (λ (k : ℕ). Reaches ls asked k) (eqb-true asked j e) itself) i t

  in_reached : Ordered ls → {i : ℕ} → Reaches ls asked i → reached ls asked i ≡ true
  in_reached ordered itself = reached-asked ls ordered asked
  in_reached ordered (named {i = i} {a = a} r j) = reached-operands ls ordered asked i a (in_reached ordered r) j

pub reached_lines_are_marked : ReachedLinesAreMarked
reached_lines_are_marked ls ordered asked i = (from_reached ls asked i, in_reached ls asked ordered)
