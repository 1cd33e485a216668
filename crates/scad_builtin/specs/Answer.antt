-- How a call answers.
use Rattle.std.specs.Prelude.{◌≡◌, ◌≢◌, Result, Err}
use Rattle.scad_builtin.specs.declared.fault.BuiltinFault.{BuiltinFault}
use Rattle.scad_builtin.specs.declared.fault.BuiltinFault.TheVariants.{Memory}

-- the fault is the answer, or there was no memory
abbrev pub Refuses : {A : Type 0} → Result A BuiltinFault → BuiltinFault → Type 0
Refuses answer fault = fault ≢ Memory → answer ≡ Err fault
