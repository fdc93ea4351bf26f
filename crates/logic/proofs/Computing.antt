-- Lines and checks computed: every working out comes to what is computed, and only to that.
use Rattle.std.proofs.Common.{◌≡◌, ℕ, suc, Bool, true, false, List, [], ◌∷◌, length, Ok, Err, sym, refl, ap, ◌∙◌, subst, arith}
use Rattle.flow.specs.Graph.{Graph}
use Rattle.flow.specs.Line.{Line, predicate, and, or, not, exists, all_next, some_next, all_until, some_until}
use Rattle.kinds.specs.Model.{Model}
use Rattle.rows.specs.declared.row.Row.{Row}
use Rattle.logic.specs.Operators.{of_all_next, of_and, of_not, of_or, of_predicate, of_some_next}
use Rattle.logic.specs.Outcomes.{Outcome, then}
use Rattle.logic.specs.Reached.{reached}
use Rattle.logic.specs.Rounds.{Rounds, Settled, round}
use Rattle.logic.specs.Witnessing.{of_exists}
use Rattle.logic.specs.Working.{
  Answer,
  Checks,
  Settles,
  Work,
  Works,
  WorksAll,
  answered,
  done,
  list,
  nothing_worked,
  passed,
  plain,
  stopped,
  with_rounds,
  with_rows,
  with_witnesses,
  worked,
}
use Rattle.logic.proofs.Growth.{round_grows}
use Rattle.logic.proofs.Rounding.{settle, settles, settles_only}

module _ {B : Type 0} (m : Model B) (g : Graph) (limit : ℕ) where
  -- the rounds of an until: enough for a list within the limit
  abbrev settled : (List (Row B) → Outcome (List (Row B))) → Work B → ℕ → ℕ → Outcome (Settled B)
  settled step w a b = settle (round m limit step (list w a)) (suc limit) (list w b)

  -- a line worked
  unfoldable pub work : Work B → Line → Outcome (Work B)
  work w (predicate p xs) = plain w (of_predicate m g limit p xs)
  work w (and a b) = plain w (of_and m g limit (list w a) (list w b))
  work w (or a b) = plain w (of_or m g limit (list w a) (list w b))
  work w (not a) = plain w (of_not m g limit (list w a))
  work w (exists x a) = then (of_exists m limit x w.witnesses (list w a)) (λ q. Ok (with_witnesses w q))
  work w (all_next a) = plain w (of_all_next m g limit (list w a))
  work w (some_next a) = plain w (of_some_next m g limit (list w a))
  work w (all_until a b) = then (settled (of_all_next m g limit) w a b) (λ z. Ok (with_rounds w z))
  work w (some_until a b) = then (settled (of_some_next m g limit) w a b) (λ z. Ok (with_rounds w z))

  -- an until settles as computed
  until_settles : (step : List (Row B) → Outcome (List (Row B))) (w : Work B) (a b : ℕ)
      → Rounds (round m limit step (list w a)) (list w b) (settled step w a b)
  until_settles step w a b =
      settles (round m limit step (list w a)) limit (λ rows all e. round_grows m limit step (list w a) rows e)
      (suc limit) (list w b) (omega arith)

  -- and in no other way
  until_only : (step : List (Row B) → Outcome (List (Row B))) (w : Work B) (a b : ℕ) (out : Outcome (Work B))
      → Settles m g limit step w a b out → out ≡ then (settled step w a b) (λ z. Ok (with_rounds w z))
  until_only step w a b out s =
      s.2 ∙ ap (λ (o : Outcome (Settled B)). then o (λ z. Ok (with_rounds w z)))
      (settles_only (round m limit step (list w a)) limit (λ rows all e. round_grows m limit step (list w a) rows e)
      s.1 (suc limit) (omega arith))

  -- each line is worked as computed
  works : (w : Work B) (l : Line) → Works m g limit w l (work w l)
  unfolding work
  works w (predicate p xs) = refl
  works w (and a b) = refl
  works w (or a b) = refl
  works w (not a) = refl
  works w (exists x a) = refl
  works w (all_next a) = refl
  works w (some_next a) = refl
  works w (all_until a b) = (_, until_settles (of_all_next m g limit) w a b, refl)
  works w (some_until a b) = (_, until_settles (of_some_next m g limit) w a b, refl)

  -- and in no other way
  works_only : (w : Work B) (l : Line) (out : Outcome (Work B)) → Works m g limit w l out → out ≡ work w l
  unfolding work
  works_only w (predicate p xs) out e = e
  works_only w (and a b) out e = e
  works_only w (or a b) out e = e
  works_only w (not a) out e = e
  works_only w (exists x a) out e = e
  works_only w (all_next a) out e = e
  works_only w (some_next a) out e = e
  works_only w (all_until a b) out e = until_only (of_all_next m g limit) w a b out e
  works_only w (some_until a b) out e = until_only (of_some_next m g limit) w a b out e

  module _ (wanted : ℕ → Bool) where
    -- a wanted line is worked, and any other has no rows
    abbrev wanted_or_not : Bool → Outcome (Work B) → (Work B → Outcome (Work B)) → Work B → Outcome (Work B)
    wanted_or_not true here next w = then here next
    wanted_or_not false here next w = next (with_rows w [])

    -- all lines worked
    unfoldable pub work_all : Work B → List Line → Outcome (Work B)
    work_all w [] = Ok w
    work_all w (l ∷ ls) = wanted_or_not (wanted (length w.lists)) (work w l) (λ next. work_all next ls) w

    -- all lines are worked as computed
    all_works : (w : Work B) (ls : List Line) → WorksAll m g limit wanted w ls (work_all w ls)
    unfolding work_all
    all_works w [] = done
    all_works w (l ∷ ls) =
        step (wanted (length w.lists)) refl (work w l) refl (λ next. all_works next ls)
      where
        step : (b : Bool) → wanted (length w.lists) ≡ b → (o : Outcome (Work B)) → work w l ≡ o
            → ((next : Work B) → WorksAll m g limit wanted next ls (work_all next ls))
            → WorksAll m g limit wanted w (l ∷ ls) (wanted_or_not b o (λ next. work_all next ls) w)
        step false t o q rec = passed t (rec (with_rows w []))
        step true t (Ok next) q rec =
            worked t (subst (λ (z : Outcome (Work B)). Works m g limit w l z) q (works w l)) (rec next)
        step true t (Err e) q rec = stopped t (subst (λ (z : Outcome (Work B)). Works m g limit w l z) q (works w l))

    -- and in no other way
    all_only : {w : Work B} {ls : List Line} {out : Outcome (Work B)} → WorksAll m g limit wanted w ls out
        → out ≡ work_all w ls
    unfolding work_all
    all_only done = refl
    all_only (passed {w = w} {l = l} {ls = ls} t rest) =
        all_only rest
        ∙ ap (λ (b : Bool). wanted_or_not b (work w l) (λ next. work_all next ls) w) (sym t)
    all_only (worked {w = w} {next = next} {l = l} {ls = ls} t q rest) =
        all_only rest
        ∙ ap (λ (o : Outcome (Work B)). wanted_or_not true o (λ next. work_all next ls) w) (works_only w l (Ok next) q)
        ∙ ap (λ (b : Bool). wanted_or_not b (work w l) (λ next. work_all next ls) w) (sym t)
    all_only (stopped {w = w} {l = l} {ls = ls} {e = e} t q) =
        ap (λ (o : Outcome (Work B)). wanted_or_not true o (λ next. work_all next ls) w) (works_only w l (Err e) q)
        ∙ ap (λ (b : Bool). wanted_or_not b (work w l) (λ next. work_all next ls) w) (sym t)

  -- the outcome of a check, computed
  abbrev pub outcome : List Line → ℕ → Outcome (Answer B)
  outcome ls asked =
      then (work_all (reached ls asked) nothing_worked ls) (λ w. Ok (answered m g limit asked w))

  -- a check comes to what is computed
  pub outcome_checks : (ls : List Line) (asked : ℕ) → Checks m g limit ls asked (outcome ls asked)
  outcome_checks ls asked =
      record {
        end = work_all (reached ls asked) nothing_worked ls;
        works = all_works (reached ls asked) nothing_worked ls;
        comes_to = refl;
      }

  -- and to nothing else
  pub outcome_only : (ls : List Line) (asked : ℕ) (out : Outcome (Answer B)) → Checks m g limit ls asked out
      → out ≡ outcome ls asked
  outcome_only ls asked out c =
      c.comes_to ∙ ap (λ (o : Outcome (Work B)). then o (λ w. Ok (answered m g limit asked w)))
      (all_only (reached ls asked) c.works)
