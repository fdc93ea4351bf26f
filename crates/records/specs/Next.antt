-- What the splitter answers and leaves.
use Rattle.std.specs.Prelude.{◌≡◌, ℕ, ◌+◌, ◌<◌, ◌≤◌, List, length, drop, IfSome, Option}
use Rattle.std.specs.Option.{option_map, option_to_list}
use Rattle.std.specs.List.{slice_get}
use Rattle.records.specs.declared.record.Record.{Record}
use Rattle.records.specs.Texts.{records}

-- with these bytes left and this many records read, `next` gives the answer, and leaves those
pub record Next (left : List ℕ) (count : ℕ) (answer : Option Record) (left' : List ℕ) (count' : ℕ) : Type 0 where
  -- the text of the first record that is left, or nothing where none is left
  pub answered : option_map (λ r. r.text.now) answer ≡ slice_get (records left) 0
  -- the records after it are left
  pub others : records left' ≡ drop 1 (records left)
  pub numbered : IfSome answer (λ r. r.number ≡ count + 1)
  pub counted : count' ≡ count + length (option_to_list answer)
  pub no_longer : length left' ≤ length left
  -- a record takes a byte or more, so calls come to an end
  pub shorter : IfSome answer (λ _. length left' < length left)
