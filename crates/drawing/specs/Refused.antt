-- What is told of the records that are refused.
use Rattle.std.specs.Prelude.{ℕ, List, [], ◌∷◌, ◌++◌, codes}
use Rattle.drawing.specs.Faults.{field_of, layer_of, letter, number_of}
use Rattle.drawing.specs.declared.fault.Fault.{Fault}
use Rattle.pages.specs.Records.{as_fields, crlf}
use Rattle.std.specs.List.{flat_map}

-- a record that is refused: its number, from 1, and why
pub record Refused : Type 0 where
  pub at : ℕ
  pub fault : Fault

-- `X,layer,number,record,field`
abbrev pub refused_text : Refused → List ℕ
refused_text r =
    (codes "X," ++ letter (layer_of r.fault) ∷ [])
    ++ (as_fields (number_of r.fault ∷ r.at ∷ field_of r.fault ∷ []) ++ crlf)

-- one record for each
abbrev pub told : List Refused → List ℕ
told rs = flat_map refused_text rs
