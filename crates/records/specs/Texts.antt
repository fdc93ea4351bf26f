-- What the records of a text and the fields of a record are. A text is the list of its bytes.
use Rattle.std.specs.Prelude.{ℕ, zero, suc, Bool, cond, ◌&&◌, ◌||◌, List, [], ◌∷◌, ◌++◌, Some, None, Option, ◌==◌}
use Rattle.std.specs.List.{list_any, slice_get, slice_split}

-- some bytes, put ahead of the first of the stretches
abbrev pub ahead : List ℕ → List (List ℕ) → List (List ℕ)
ahead bytes [] = bytes ∷ []
ahead bytes (first ∷ more) = (bytes ++ first) ∷ more

-- the records of a text: the stretches between its CRLFs (bytes 13 10), without an empty one at the end
unfoldable pub records : List ℕ → List (List ℕ)
records [] = []
records (b ∷ []) = (b ∷ []) ∷ []
records (b ∷ c ∷ rest) = cond (b == 13 && c == 10) ([] ∷ records rest) (ahead (b ∷ []) (records (c ∷ rest)))

-- the fields of a record: the stretches between its commas (byte 44)
abbrev pub fields : List ℕ → List (List ℕ)
fields text = slice_split (λ b. b == 44) text

-- the field of this number, where the record has one: the first field has the number 1
abbrev pub field_at : List ℕ → ℕ → Option (List ℕ)
field_at text zero = None
field_at text (suc i) = slice_get (fields text) i

-- the byte that a field is, where it is just one
abbrev pub only : List ℕ → Option ℕ
only [] = None
only (b ∷ []) = Some b
only (b ∷ c ∷ rest) = None

-- a CR, an LF or a double quote (byte 34), which no record should have
abbrev pub stray : ℕ → Bool
stray b = b == 13 || (b == 10 || b == 34)

-- a record is broken when it has a stray byte
abbrev pub broken : List ℕ → Bool
broken text = list_any stray text
