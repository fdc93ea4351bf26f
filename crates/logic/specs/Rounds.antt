-- The rounds of an until: a list grows, round by round, up to the first round that adds nothing.
use Rattle.std.specs.Prelude.{◌≡◌, ℕ, ◌+◌, ◌<◌, List, length, Ok, Err}
use Rattle.kinds.specs.Model.{Model}
use Rattle.rows.specs.declared.row.Row.{Row}
use Rattle.logic.specs.Adding.{add_all, pairing}
use Rattle.logic.specs.Outcomes.{Outcome, then}
use Rattle.logic.specs.declared.shortage.Shortage.{Shortage}

-- rows, and after how many rounds
pub record Settled (B : Type 0) : Type 0 where
  pub rows : List (Row B)
  pub rounds : ℕ

-- the same with a round before
abbrev pub one_more : {B : Type 0} → Outcome (Settled B) → Outcome (Settled B)
one_more (Ok z) = Ok (record { rows = z.rows; rounds = z.rounds + 1 })
one_more (Err e) = Err e

-- one round: the step of the list, paired with the rows of a, is added to the list
unfoldable pub round : {B : Type 0} → Model B → ℕ → (List (Row B) → Outcome (List (Row B))) → List (Row B)
    → List (Row B) → Outcome (List (Row B))
round m limit step ps rows =
    then (step rows) (λ next. then (pairing m limit ps next) (λ more. add_all m limit rows more))

-- from a list, rounds come to an outcome
pub data Rounds {B : Type 0} (turn : List (Row B) → Outcome (List (Row B)))
    : List (Row B) → Outcome (Settled B) → Type 0 where
  -- a round finds no room
  stops : {rows : List (Row B)} {e : Shortage} → turn rows ≡ Err e → Rounds turn rows (Err e)
  -- a round adds nothing, and is the last
  last : {rows : List (Row B)} → turn rows ≡ Ok rows → Rounds turn rows (Ok (record { rows = rows; rounds = 1 }))
  -- a round adds something, and others follow
  more : {rows longer : List (Row B)} {out : Outcome (Settled B)} → turn rows ≡ Ok longer
      → length rows < length longer → Rounds turn longer out → Rounds turn rows (one_more out)
