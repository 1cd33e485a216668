-- Where want of memory may be an answer.
use Rattle.std.specs.Prelude.{Bool, true, false, Result}
use Rattle.scad_base.specs.Memory.{TakesMemoryFor as TakesFor, TakesNone as TakesNothing}
use Rattle.scad_builtin.specs.declared.fault.BuiltinFault.{BuiltinFault}
use Rattle.scad_builtin.specs.declared.fault.BuiltinFault.TheVariants.{Memory}
use Rattle.scad_builtin.specs.declared.function.Function.{Function}
use Rattle.scad_builtin.specs.declared.function.Function.TheVariants.{Concat, Str, Chr, Cross}
use Rattle.scad_builtin.specs.declared.function.Name.{Name}
use Rattle.scad_builtin.specs.declared.function.Name.TheVariants.{Known, LeftOut, Unknown}

abbrev pub is_memory : BuiltinFault → Bool
is_memory Memory = true
is_memory _ = false

-- the function makes a string or a vector
abbrev pub makes_list : Function → Bool
makes_list Concat = true
makes_list Str = true
makes_list Chr = true
makes_list Cross = true
makes_list _ = false

abbrev pub names_maker : Name → Bool
names_maker (Known function) = makes_list function
names_maker LeftOut = false
names_maker Unknown = false

-- there is memory enough, unless what is made is a string or a vector
abbrev pub TakesMemoryFor : {A : Type 0} → Bool → Result A BuiltinFault → Type 0
TakesMemoryFor maker answer = TakesFor is_memory maker answer

-- no memory is taken
abbrev pub TakesNone : {A : Type 0} → Result A BuiltinFault → Type 0
TakesNone answer = TakesNothing is_memory answer
