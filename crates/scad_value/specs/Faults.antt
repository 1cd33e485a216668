-- Faults of operations, and what an answer tells of them.
use Rattle.std.specs.Prelude.{Bool, true, false, Result}
use Rattle.scad_base.specs.Memory.{Refuses as RefusesBy}
use Rattle.scad_num.specs.declared.fault.NumFault.{NumFault}
use Rattle.scad_num.specs.declared.fault.NumFault.TheVariants.{Range}
use Rattle.scad_num.specs.declared.fault.NumFault.TheVariants.{ZeroDivisor as NumZeroDivisor}
use Rattle.scad_value.specs.declared.fault.ValueFault.{ValueFault}
use Rattle.scad_value.specs.declared.fault.ValueFault.TheVariants.{ZeroDivisor, NumberRange, Memory}

-- the fault of a value that is the fault of a number in it
abbrev pub fault_of : NumFault → ValueFault
fault_of Range = NumberRange
fault_of NumZeroDivisor = ZeroDivisor

abbrev pub is_memory : ValueFault → Bool
is_memory Memory = true
is_memory _ = false

-- there is no value for this reason, or there was no memory
abbrev pub Refuses : {A : Type 0} → Result A ValueFault → ValueFault → Type 0
Refuses answer fault = RefusesBy is_memory answer fault
