-- A whole check worked out: the lines that the asked line reaches, ascending, each once.
use Rattle.std.specs.Prelude.{◌≡◌, ℕ, ◌+◌, Bool, true, false, List, [], ◌∷◌, ◌++◌, length, Ok, Err, slice_index_or}
use Rattle.flow.specs.Graph.{Graph}
use Rattle.flow.specs.Line.{Line, predicate, and, or, not, exists, all_next, some_next, all_until, some_until}
use Rattle.kinds.specs.Model.{Model}
use Rattle.rows.specs.declared.row.Row.{Row}
use Rattle.rows.specs.declared.witness.Witness.{Witness}
use Rattle.logic.specs.Operators.{of_all_next, of_and, of_not, of_or, of_predicate, of_some_next}
use Rattle.logic.specs.Outcomes.{Outcome, then}
use Rattle.logic.specs.Reached.{reached}
use Rattle.logic.specs.Rounds.{Rounds, Settled, round}
use Rattle.logic.specs.Witnessing.{Quantified, of_exists}
use Rattle.logic.specs.declared.shortage.Shortage.{Shortage}

-- how far a check has come: a list for each line so far, the witnesses, and the rounds of all untils
pub record Work (B : Type 0) : Type 0 where
  pub lists : List (List (Row B))
  pub witnesses : List (Witness B)
  pub rounds : ℕ

-- what a check answers
pub record Answer (B : Type 0) : Type 0 where
  pub rows : List (Row B)
  pub witnesses : List (Witness B)
  pub rounds : ℕ

module _ {B : Type 0} where
  abbrev pub nothing_worked : Work B
  nothing_worked = record { lists = []; witnesses = []; rounds = 0 }

  -- the list of a line
  abbrev pub list : Work B → ℕ → List (Row B)
  list w a = slice_index_or w.lists a []

  -- the next line has these rows
  abbrev pub with_rows : Work B → List (Row B) → Work B
  with_rows w rows = record { lists = w.lists ++ rows ∷ []; witnesses = w.witnesses; rounds = w.rounds }

  -- the next line has these rows, and there are these witnesses
  abbrev pub with_witnesses : Work B → Quantified B → Work B
  with_witnesses w q = record { lists = w.lists ++ q.rows ∷ []; witnesses = q.witnesses; rounds = w.rounds }

  -- the next line has these rows, after so many rounds more
  abbrev pub with_rounds : Work B → Settled B → Work B
  with_rounds w z =
      record { lists = w.lists ++ z.rows ∷ []; witnesses = w.witnesses; rounds = w.rounds + z.rounds }

  abbrev pub plain : Work B → Outcome (List (Row B)) → Outcome (Work B)
  plain w out = then out (λ rows. Ok (with_rows w rows))

module _ {B : Type 0} (m : Model B) (g : Graph) (limit : ℕ) where
  -- an until settles, from the rows of its goal on
  abbrev pub Settles : (List (Row B) → Outcome (List (Row B))) → Work B → ℕ → ℕ → Outcome (Work B) → Type 0
  Settles step w a b out =
      (z : Outcome (Settled B)) × Rounds (round m limit step (list w a)) (list w b) z
      × (out ≡ then z (λ s. Ok (with_rounds w s)))

  -- what working the next line comes to
  abbrev pub Works : Work B → Line → Outcome (Work B) → Type 0
  Works w (predicate p xs) out = out ≡ plain w (of_predicate m g limit p xs)
  Works w (and a b) out = out ≡ plain w (of_and m g limit (list w a) (list w b))
  Works w (or a b) out = out ≡ plain w (of_or m g limit (list w a) (list w b))
  Works w (not a) out = out ≡ plain w (of_not m g limit (list w a))
  Works w (exists x a) out =
      out ≡ then (of_exists m limit x w.witnesses (list w a)) (λ q. Ok (with_witnesses w q))
  Works w (all_next a) out = out ≡ plain w (of_all_next m g limit (list w a))
  Works w (some_next a) out = out ≡ plain w (of_some_next m g limit (list w a))
  Works w (all_until a b) out = Settles (of_all_next m g limit) w a b out
  Works w (some_until a b) out = Settles (of_some_next m g limit) w a b out

  -- what working all lines comes to; a line that is not wanted has no rows
  pub data WorksAll (wanted : ℕ → Bool) : Work B → List Line → Outcome (Work B) → Type 0 where
    done : {w : Work B} → WorksAll wanted w [] (Ok w)
    passed : {w : Work B} {l : Line} {ls : List Line} {out : Outcome (Work B)} → wanted (length w.lists) ≡ false
        → WorksAll wanted (with_rows w []) ls out → WorksAll wanted w (l ∷ ls) out
    worked : {w next : Work B} {l : Line} {ls : List Line} {out : Outcome (Work B)}
        → wanted (length w.lists) ≡ true → Works w l (Ok next) → WorksAll wanted next ls out
        → WorksAll wanted w (l ∷ ls) out
    stopped : {w : Work B} {l : Line} {ls : List Line} {e : Shortage} → wanted (length w.lists) ≡ true
        → Works w l (Err e) → WorksAll wanted w (l ∷ ls) (Err e)

  -- the rows of the asked line, with all witnesses and rounds
  abbrev pub answered : ℕ → Work B → Answer B
  answered asked w = record { rows = list w asked; witnesses = w.witnesses; rounds = w.rounds }

  -- a check of the asked line comes to this outcome
  pub record Checks (ls : List Line) (asked : ℕ) (out : Outcome (Answer B)) : Type 0 where
    pub end : Outcome (Work B)
    pub works : WorksAll (reached ls asked) nothing_worked ls end
    pub comes_to : out ≡ then end (λ w. Ok (answered asked w))
