-- Formulas, and the formula that a line of a sheet stands for.
use Rattle.std.specs.Prelude.{ℕ, List, [], ◌∷◌, ◌++◌, slice_index_or}
use Rattle.flow.specs.Line.{Line}
use Rattle.flow.specs.Line as line

pub data Formula : Type 0 where
  -- a predicate, and the variables that it holds of
  predicate : ℕ → List ℕ → Formula
  and or : Formula → Formula → Formula
  not : Formula → Formula
  -- a variable, and what holds for some value of it
  exists : ℕ → Formula → Formula
  all_next some_next : Formula → Formula
  -- what holds until then, and what holds then
  all_until some_until : Formula → Formula → Formula

-- the formula of an earlier line, where those before stand for fs (an unknown line is a predicate that nothing asks of)
abbrev pub earlier : List Formula → ℕ → Formula
earlier fs a = slice_index_or fs a (predicate 0 [])

-- what a line stands for, where the lines before it stand for fs
abbrev pub read : List Formula → Line → Formula
read fs (line.predicate p xs) = predicate p xs
read fs (line.and a b) = and (earlier fs a) (earlier fs b)
read fs (line.or a b) = or (earlier fs a) (earlier fs b)
read fs (line.not a) = not (earlier fs a)
read fs (line.exists x a) = exists x (earlier fs a)
read fs (line.all_next a) = all_next (earlier fs a)
read fs (line.some_next a) = some_next (earlier fs a)
read fs (line.all_until a b) = all_until (earlier fs a) (earlier fs b)
read fs (line.some_until a b) = some_until (earlier fs a) (earlier fs b)

-- the formulas of lines that come after those that stand for fs
abbrev pub read_on : List Formula → List Line → List Formula
read_on fs [] = fs
read_on fs (l ∷ ls) = read_on (fs ++ read fs l ∷ []) ls

-- the formula of a line of the sheet
unfoldable pub formula : List Line → ℕ → Formula
formula ls i = earlier (read_on [] ls) i
