-- What is printed of the states and the lines, one step on.
use Rattle.std.proofs.Common.{◌≡◌, ℕ, ◌+◌, List, [], ◌∷◌, ◌++◌, length, sym, ap, add-one, add-zero, arith}
use Rattle.std.proofs.lemmas.Grind.{common_steps}
use Rattle.drawing.specs.Shown.{lines_text, state_text, states_text}
use Rattle.flow.specs.Graph.{Graph}
use Rattle.flow.specs.Line.{Line}
use Rattle.pages.proofs.Adding.{printing}

-- one state more
pub states_more : (g : Graph) (s : ℕ) → states_text g (s + 1) ≡ states_text g s ++ state_text g s
states_more g s = ap (states_text g) (add-one s)

-- some lines, and then others
pub lines_text-append : (n : ℕ) (ls ms : List Line)
    → lines_text n (ls ++ ms) ≡ lines_text n ls ++ lines_text (n + length ls) ms
lines_text-append n [] ms = ap (λ k. lines_text k ms) (sym (add-zero n))
lines_text-append n (l ∷ ls) ms = grind (arith, common_steps, lines_text-append (n + 1) ls ms)

-- for what prints the states or the lines one by one
pub ruleset walking = (printing, states_more, lines_text-append)
