-- What stands in a vector that is being made: values, and ranges whose numbers stand there.
use Rattle.std.specs.Prelude.{◌≡◌, List, [], ◌∷◌, ◌++◌, Vec}
use Rattle.std.specs.Global.{Global}
use Rattle.std.specs.List.{flat_map}
use Rattle.scad_fault.specs.declared.place.Place.{Place}
use Rattle.scad_value.specs.Datum.{Datum, vector, range}
use Rattle.scad_value.specs.View.{datum_of}
use Rattle.scad_operations.specs.declared.part.Part.{Part}
use Rattle.scad_operations.specs.declared.part.Part.TheVariants.{One, Run}
use Rattle.scad_operations.specs.Runs.{items, as_elements}
use Rattle.scad_machine.specs.State.{State, make}

-- a value, or a range's numbers
abbrev pub part_data : Part → List Datum
part_data (One v) = datum_of v ∷ []
part_data (Run start step end) = items (range start step end)

abbrev pub parts_of : List Part → List Datum
parts_of all = flat_map part_data all

-- what the parts that a vector holds stand for
abbrev pub parts_in : Vec Part Global → List Datum
parts_in v = parts_of v.items

-- a vector is made of the one list as of the other, whatever place it has and whatever steps were taken
pub record MakeAlike (short whole : List Datum) : Type 0 where
  pub alike : (at : Place) (s : State) → make at (vector (as_elements short)) s
      ≡ make at (vector (as_elements whole)) s

-- and whatever comes behind it
pub record MakeAlikeThen (short whole : List Datum) : Type 0 where
  pub behind : (more : List Datum) → MakeAlike (short ++ more) (whole ++ more)
