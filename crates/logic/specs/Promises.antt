-- What is proved of every working out, for every kind of value.
use Rattle.std.specs.Prelude.{◌≡◌, ℕ, ◌+◌, ◌<◌, ◌≤◌, true, ◌↔◌, List, length, Ok}
use Rattle.flow.specs.Facts.{ClosedGraph, Ordered}
use Rattle.flow.specs.Graph.{Graph, Label}
use Rattle.flow.specs.Line.{Line}
use Rattle.kinds.specs.Consequences.{Nameable}
use Rattle.kinds.specs.Member.{◌∈◌}
use Rattle.kinds.specs.Model.{Model}
use Rattle.rows.specs.Forests.{has}
use Rattle.rows.specs.declared.row.Row.{Row}
use Rattle.logic.specs.Faithful.{Faithful, witness}
use Rattle.logic.specs.Formulas.{formula}
use Rattle.logic.specs.Outcomes.{Outcome}
use Rattle.logic.specs.Reached.{Reaches, reached}
use Rattle.logic.specs.Rounds.{Rounds, Settled, round}
use Rattle.logic.specs.Working.{Answer, Checks}

-- the lines that are marked are just those that the asked line reaches
abbrev pub ReachedLinesAreMarked : Type 0
ReachedLinesAreMarked =
    (ls : List Line) → Ordered ls → (asked i : ℕ) → (reached ls asked i ≡ true) ↔ Reaches ls asked i

module _ {B : Type 0} (m : Model B) where
  -- every number in a label may stand there
  abbrev pub NameableLabels : Graph → Type 0
  NameableLabels g = (l : Label) → l ∈ g.labels → (n : ℕ) → n ∈ l.values → Nameable m n

  -- on a closed graph with nameable labels, every check of a line of a sheet that is answered is faithful
  abbrev pub EveryAnswerIsFaithful : Type 0
  EveryAnswerIsFaithful =
      (g : Graph) → ClosedGraph g → NameableLabels g → (ls : List Line) → Ordered ls → (limit asked : ℕ)
      → asked < length ls → (a : Answer B) → Checks m g limit ls asked (Ok a)
      → Faithful m g (formula ls asked) a.witnesses a.rows

  -- and each of its witnesses names only earlier ones
  abbrev pub WitnessesNameEarlierOnes : Type 0
  WitnessesNameEarlierOnes =
      (g : Graph) → NameableLabels g → (ls : List Line) → Ordered ls → (limit asked : ℕ) → asked < length ls
      → (a : Answer B) → Checks m g limit ls asked (Ok a) → (i : ℕ) → i < length a.witnesses
      → (j : ℕ) → has (witness m a.witnesses i).forest j ≡ true → j < i

  -- every check comes to exactly one outcome
  abbrev pub EveryCheckHasOneOutcome : Type 0
  EveryCheckHasOneOutcome =
      (g : Graph) (limit : ℕ) (ls : List Line) (asked : ℕ)
      → (out : Outcome (Answer B)) × Checks m g limit ls asked out
      × ((other : Outcome (Answer B)) → Checks m g limit ls asked other → other ≡ out)

  -- an until takes at most its rows, less those of its goal, plus one round
  abbrev pub RoundsAreFew : Type 0
  RoundsAreFew =
      (limit : ℕ) (step : List (Row B) → Outcome (List (Row B))) (ps qs : List (Row B)) (z : Settled B)
      → Rounds (round m limit step ps) qs (Ok z) → z.rounds + length qs ≤ length z.rows + 1
