-- What the state of a scan tells of the bytes that were read.
use Rattle.std.specs.Prelude.{◌≡◌, ℕ, ◌+◌, ◌<◌, Bool, List, ◌∷◌, ◌++◌, length, take, drop, slice_index, slice_index_or}
use Rattle.records.specs.declared.scan.Scan.{Scan}
use Rattle.records.specs.declared.scan.Scan.TheVariants.{Text, AfterCr, Ended}
use Rattle.records.specs.Texts.{ahead, broken, records}

-- no record ends within the first `at` bytes, and `strays` says whether they have a stray byte
pub record Within (left : List ℕ) (at : ℕ) (strays : Bool) : Type 0 where
  pub goes_on : records left ≡ ahead (take at left) (records (drop at left))
  pub judged : strays ≡ broken (take at left)

-- the same, and the next byte is a CR
pub record Held (left : List ℕ) (at : ℕ) (strays : Bool) : Type 0 where
  pub within : Within left at strays
  pub held : slice_index_or left at 0 ≡ 13

-- the first record is the first `at` bytes, before a CRLF
pub record CutAt (left : List ℕ) (at : ℕ) (strays : Bool) : Type 0 where
  pub first : records left ≡ take at left ∷ records (drop (at + 2) left)
  pub judged : strays ≡ broken (take at left)

-- the record has not ended yet
abbrev pub Going : Scan → Type 0
Going (Text strays) = Unit {0}
Going (AfterCr strays) = Unit {0}
Going (Ended strays) = ⊥

-- what each state tells after `read` bytes
abbrev pub Scanned : List ℕ → ℕ → Scan → Type 0
Scanned left read (Text strays) = Within left read strays
Scanned left read (AfterCr strays) = (at : ℕ) × (read ≡ at + 1) × Held left at strays
Scanned left read (Ended strays) = (at : ℕ) × (read ≡ at + 2) × CutAt left at strays

-- `next` is the state after one byte more
abbrev pub Steps : Scan → ℕ → Scan → Type 0
Steps scan byte next =
    (left : List ℕ) (read : ℕ) → read < length left → slice_index left read ≡ byte → Going scan
    → Scanned left read scan → Scanned left (read + 1) next

-- `text` is the first record, and `rest` is what stands behind its end
pub record Cuts (left text rest : List ℕ) (strays : Bool) : Type 0 where
  pub first : records left ≡ text ∷ records rest
  pub judged : strays ≡ broken text
  -- both are parts of what was left, in this order
  pub parts : (end : List ℕ) × (left ≡ text ++ end ++ rest)
  pub shorter : length rest < length left
