-- The lines that a line reaches: itself, and the operands of each line that it reaches; by relation, and by marks.
use Rattle.std.specs.Prelude.{ℕ, zero, suc, Bool, true, false, ◌||◌, List, [], ◌∷◌, nat_eq, slice_index_or}
use Rattle.flow.specs.Line.{Line, predicate, and, or, not, exists, all_next, some_next, all_until, some_until}
use Rattle.std.specs.List.{list_any}
use Rattle.kinds.specs.Member.{◌∈◌}

-- the lines that a line names
abbrev pub operands : Line → List ℕ
operands (predicate p xs) = []
operands (and a b) = a ∷ b ∷ []
operands (or a b) = a ∷ b ∷ []
operands (not a) = a ∷ []
operands (exists x a) = a ∷ []
operands (all_next a) = a ∷ []
operands (some_next a) = a ∷ []
operands (all_until a b) = a ∷ b ∷ []
operands (some_until a b) = a ∷ b ∷ []

abbrev pub line_at : List Line → ℕ → Line
line_at ls i = slice_index_or ls i (predicate 0 [])

-- the asked line reaches itself, and what a line names that it reaches
pub data Reaches (ls : List Line) (asked : ℕ) : ℕ → Type 0 where
  itself : Reaches ls asked asked
  named : {i a : ℕ} → Reaches ls asked i → a ∈ operands (line_at ls i) → Reaches ls asked a

-- marks on lines, with those of these lines set too, if they are to be
abbrev pub marking : Bool → List ℕ → (ℕ → Bool) → ℕ → Bool
marking false os marks i = marks i
marking true os marks i = marks i || list_any (nat_eq i) os

-- from the line below n down to the first: a marked line marks its operands
abbrev pub marked_below : List Line → ℕ → (ℕ → Bool) → ℕ → Bool
marked_below ls zero marks = marks
marked_below ls (suc n) marks = marked_below ls n (marking (marks n) (operands (line_at ls n)) marks)

-- the line is marked, where the asked line was marked first
unfoldable pub reached : List Line → ℕ → ℕ → Bool
reached ls asked = marked_below ls (suc asked) (nat_eq asked)
