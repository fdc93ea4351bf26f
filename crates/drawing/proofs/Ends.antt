-- Where the records of a phase lead: to what a list of calls draws or enters.
use Rattle.std.proofs.Common.{◌≡◌, ℕ, List, [], ◌∷◌, Some, None, Ok, Err, Option, Result, refl, ◌∙◌}
use Rattle.drawing.specs.Calls.{and_build, and_line, builds, line_calls}
use Rattle.drawing.specs.Following.{
  Standing,
  by_case,
  by_text,
  closed_case,
  draft_step,
  drafting,
  drawn_by,
  entered_by,
  final,
  if_closes,
  left_by,
  one_step,
  sheet_step,
}
use Rattle.drawing.specs.declared.step.Step.TheVariants.{Goes}
use Rattle.flow.specs.Cases.{Content}
use Rattle.flow.specs.Drawn.{after, drawn_on, refusal}
use Rattle.flow.specs.Graph.{Graph}
use Rattle.flow.specs.Line.{Line}
use Rattle.flow.specs.Refusals.{reply}
use Rattle.flow.specs.Sheet.{entered_on, entry}
use Rattle.flow.specs.declared.refusal.Refusal.{Refusal}
use Rattle.records.specs.Asked.{DraftCall, SheetCall, build, check, close, draft_call, line, sheet_call}
use Rattle.records.specs.declared.fault.Fault as text

-- a call that draws or enters, refused or not, closes nothing
draws_on : {A : Type 0} (o : Option Refusal) (closes goes : A) → if_closes (by_case (reply o Goes)) closes goes ≡ goes
draws_on None closes goes = refl
draws_on (Some r) closes goes = refl

enters_on : {A : Type 0} (o : Result Line Refusal) (closes goes : A)
    → if_closes (by_case (one_step o)) closes goes ≡ goes
enters_on (Ok l) closes goes = refl
enters_on (Err r) closes goes = refl

-- a draft that is followed through ends with the graph that the calls draw
pub drawn_to_end : (g : Graph) (ts : List (List ℕ)) → final (drafting g) ts ≡ drafting (drawn_on g (builds ts))
unfolding final builds
drawn_to_end g [] = refl
drawn_to_end g (t ∷ ts) =
    by_call (draft_call t) (λ h. drawn_to_end h ts)
  where
    by_call :
        (a : Result DraftCall text.Fault)
        → ((h : Graph) → final (drafting h) ts ≡ drafting (drawn_on h (builds ts)))
        → let s = drafting (left_by drawn_by g a) in
        if_closes (by_text (draft_step g) a) s (final s ts) ≡ drafting (drawn_on g (and_build a (builds ts)))
    by_call (Ok (build b)) more = draws_on (refusal g b) _ _ ∙ more (after g b)
    by_call (Ok close) more = refl
    by_call (Err f) more = more g

-- a closed case ends with its graph and the lines that the calls enter
pub entered_to_end : (k : Content) (ts : List (List ℕ))
    → final (closed_case k) ts ≡ closed_case record { graph = k.graph; lines = entered_on k.lines (line_calls ts) }
unfolding final line_calls
entered_to_end k [] = refl
entered_to_end k (t ∷ ts) =
    by_call (sheet_call t) (λ m. entered_to_end m ts)
  where
    ends : Content → List (ℕ × List ℕ) → Standing
    ends m calls = closed_case record { graph = m.graph; lines = entered_on m.lines calls }

    by_call :
        (a : Result SheetCall text.Fault) → ((m : Content) → final (closed_case m) ts ≡ ends m (line_calls ts))
        → let s = closed_case (left_by entered_by k a) in
        if_closes (by_text (sheet_step k) a) s (final s ts) ≡ ends k (and_line a (line_calls ts))
    by_call (Ok (line c ns)) more = enters_on (entry k.lines c ns) _ _ ∙ more (entered_by k (line c ns))
    by_call (Ok (check a)) more = more k
    by_call (Err f) more = more k
