-- Why a record is refused: the layer, its letter, the number and the field.
use Rattle.std.specs.Prelude.{ℕ}
use Rattle.drawing.specs.declared.fault.Fault.{Fault}
use Rattle.drawing.specs.declared.fault.Fault.TheVariants as why
use Rattle.drawing.specs.declared.fault.Layer.{Layer}
use Rattle.drawing.specs.declared.fault.Layer.TheVariants as layers
use Rattle.flow.specs.Refusals.{number}
use Rattle.records.specs.Faults.{fault_field, fault_number}

-- `T` for the text, `C` for the case
abbrev pub letter : Layer → ℕ
letter layers.Text = 84
letter layers.Case = 67

abbrev pub layer_of : Fault → Layer
layer_of (why.Text f) = layers.Text
layer_of (why.Case r) = layers.Case

abbrev pub number_of : Fault → ℕ
number_of (why.Text f) = fault_number f
number_of (why.Case r) = number r

-- 0 unless a field is at fault
abbrev pub field_of : Fault → ℕ
field_of (why.Text f) = fault_field f
field_of (why.Case r) = 0
