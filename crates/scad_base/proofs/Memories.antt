-- Where memory may be wanting.
use Rattle.std.proofs.Common.{Bool, true, false, refl, Result, Ok, Err}
use Rattle.scad_base.specs.Memory.{TakesMemoryFor, TakesNone}

-- where none is taken, any may be
pub TakesMemoryFor-none : {A F : Type 0} (is_memory : F → Bool) (made : Bool) (answer : Result A F)
    → TakesNone is_memory answer → TakesMemoryFor is_memory made answer
TakesMemoryFor-none is_memory made (Ok a) none = none
TakesMemoryFor-none is_memory true (Err e) none = refl
TakesMemoryFor-none is_memory false (Err e) none = none
