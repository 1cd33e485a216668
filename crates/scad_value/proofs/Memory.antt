-- Where memory may be wanting.
use Rattle.std.proofs.Common.{◌≡◌, ◌∙◌, ◌||◌, Bool, true, Result, Ok, Err, refl, ap}
use Rattle.std.specs.Prelude.{not}
use Rattle.scad_value.specs.declared.fault.ValueFault.{ValueFault}
use Rattle.scad_base.proofs.Memories.{TakesMemoryFor-none}
use Rattle.scad_value.specs.Faults.{is_memory}
use Rattle.scad_value.specs.Elementwise.{Answer, AllAnswers, as_vector}
use Rattle.scad_value.specs.Memory.{begins_list, TakesMemoryFor, TakesNone}
use Rattle.scad_value.proofs.Rows.{at_vector}

-- where none is taken, any may be
pub takes-none : {A : Type 0} (list : Bool) (answer : Result A ValueFault) → TakesNone answer
    → TakesMemoryFor list answer
takes-none list answer none = TakesMemoryFor-none is_memory list answer none

pub begins-vector : (all : AllAnswers) → begins_list (as_vector all) ≡ true
begins-vector (Ok all) = refl
begins-vector (Err fault) = refl

-- where a vector is made or refused, any may be
pub takes-vector : {A : Type 0} (answer : Answer) (all : AllAnswers) (given : Result A ValueFault)
    → answer ≡ as_vector all → TakesMemoryFor (begins_list answer) given
takes-vector answer all (Ok a) is = tt
takes-vector answer all (Err fault) is =
    ap (λ begun. begun || not (is_memory fault)) (ap begins_list is ∙ begins-vector all)

pub ruleset takings = (takes-none, begins-vector, at_vector)
