-- Where want of memory may be an answer.
use Rattle.std.specs.Prelude.{Bool, true, false, Result, Ok, Err}
use Rattle.scad_base.specs.Memory.{TakesMemoryFor as TakesFor, TakesNone as TakesNothing}
use Rattle.scad_value.specs.declared.fault.ValueFault.{ValueFault}
use Rattle.scad_value.specs.Datum.{Datum, string, vector}
use Rattle.scad_value.specs.Elementwise.{Answer}
use Rattle.scad_value.specs.Faults.{is_memory}

-- strings and vectors lie in memory of their own, all else in the value itself
abbrev pub is_list : Datum → Bool
is_list (string chars) = true
is_list (vector all) = true
is_list _ = false

-- some list may have been begun: the value is one, or there is none
abbrev pub begins_list : Answer → Bool
begins_list (Ok d) = is_list d
begins_list (Err fault) = true

-- there is memory enough, unless a list is made
abbrev pub TakesMemoryFor : {A : Type 0} → Bool → Result A ValueFault → Type 0
TakesMemoryFor list answer = TakesFor is_memory list answer

-- no memory is taken
abbrev pub TakesNone : {A : Type 0} → Result A ValueFault → Type 0
TakesNone answer = TakesNothing is_memory answer
