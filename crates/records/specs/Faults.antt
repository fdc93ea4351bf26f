-- How faults are told.
use Rattle.std.specs.Prelude.{ℕ}
use Rattle.records.specs.declared.fault.Fault.{Fault}
use Rattle.records.specs.declared.fault.Fault.TheVariants.{Broken, Form, Phase, Number}

-- the number of a fault
abbrev pub fault_number : Fault → ℕ
fault_number Form = 20
fault_number (Number at) = 21
fault_number Phase = 22
fault_number Broken = 23

-- the number of the field at fault, or 0 where the whole record is
abbrev pub fault_field : Fault → ℕ
fault_field Form = 0
fault_field (Number at) = at
fault_field Phase = 0
fault_field Broken = 0
