-- The faults of numbers, as those of functions.
use Rattle.std.specs.Prelude.{Result, Ok, Err}
pub use Rattle.scad_base.specs.Results.{and_then}
use Rattle.scad_num.specs.declared.fault.NumFault.{NumFault}
use Rattle.scad_num.specs.declared.fault.NumFault.TheVariants.{Range}
use Rattle.scad_num.specs.declared.fault.NumFault.TheVariants.{ZeroDivisor as ByZero}
use Rattle.scad_builtin.specs.declared.fault.BuiltinFault.{BuiltinFault}
use Rattle.scad_builtin.specs.declared.fault.BuiltinFault.TheVariants.{NumberRange, ZeroDivisor}

abbrev pub fault_of : NumFault → BuiltinFault
fault_of Range = NumberRange
fault_of ByZero = ZeroDivisor

-- the result of an operation on numbers, as that of a function
abbrev pub judged : {A : Type 0} → Result A NumFault → Result A BuiltinFault
judged (Ok a) = Ok a
judged (Err e) = Err (fault_of e)
