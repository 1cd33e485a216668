-- What the arguments of an extrusion say (OpenSCAD User Manual, "linear_extrude", "rotate_extrude"). A form that the
-- language leaves out goes before a bad argument.
use Rattle.std.specs.Prelude.{codes, List, ◌*◌, ◌==◌, ℤ, pos, Bool, true, false, ◌&&◌, Option, Some, None, Ok, Err, if◌then◌else◌}
use Rattle.std.specs.Ordering.{int_eq}
use Rattle.scad_base.specs.Results.{and_then}
use Rattle.scad_ast.specs.Tree.{Arguments}
use Rattle.scad_num.specs.Number.{one}
use Rattle.scad_value.specs.Datum.{Datum, number, vector, Elements}
use Rattle.scad_value.specs.Products.{nth, count}
use Rattle.scad_modules.specs.declared.fault.ArgumentFault.TheVariants.{LeftOut}
use Rattle.scad_modules.specs.declared.fineness.Resolution.{Resolution}
use Rattle.scad_modules.specs.Arguments.{taken}
use Rattle.scad_modules.specs.Reading.{Read, size_of, truth_of}
use Rattle.scad_modules.specs.Shapes.{Fineness, resolution_of}

-- a value is this number
abbrev pub is_number : ℤ → Datum → Bool
is_number z (number given) = int_eq given z
is_number z _ = false

abbrev pub is_number_if_given : ℤ → Option Datum → Bool
is_number_if_given z None = true
is_number_if_given z (Some d) = is_number z d

abbrev pub are_two_ones : Elements → Bool
are_two_ones all = (count all == 2) && (is_number (pos one) (nth all 0) && is_number (pos one) (nth all 1))

-- the number 1, or two numbers 1
abbrev pub is_one_scale : Datum → Bool
is_one_scale (number given) = int_eq given (pos one)
is_one_scale (vector all) = are_two_ones all
is_one_scale _ = false

abbrev pub is_one_scale_if_given : Option Datum → Bool
is_one_scale_if_given None = true
is_one_scale_if_given (Some d) = is_one_scale d

abbrev pub isnt_given : Option Datum → Bool
isnt_given None = true
isnt_given (Some d) = false

-- a size; 100 where none is given
abbrev pub extruded_height : Option Datum → Read ℤ
extruded_height None = Ok (pos (100 * one))
extruded_height (Some d) = size_of d

-- a height, and whether it is centred
abbrev pub height_and_center : Option Datum → Option Datum → Read (ℤ × Bool)
height_and_center height center = and_then (extruded_height height) (λ h. Ok (h, truth_of center))

-- an extrusion is neither twisted nor scaled, and goes upwards
abbrev pub is_plain : Arguments → List Datum → Bool
is_plain args values =
    is_number_if_given (pos 0) (taken None (codes "twist") args values)
    && (is_one_scale_if_given (taken None (codes "scale") args values)
    && isnt_given (taken None (codes "v") args values))

-- `linear_extrude(height, center)`: its height, and whether it is centred
unfoldable pub linear_by : Arguments → List Datum → Read (ℤ × Bool)
linear_by args values =
    if is_plain args values
    then height_and_center (taken (Some 0) (codes "height") args values) (taken (Some 1) (codes "center") args values)
    else Err LeftOut

-- `rotate_extrude()`, all the way round: the numbers by which its turns are counted
unfoldable pub turned_by : Fineness → Arguments → List Datum → Read Resolution
turned_by fine args values =
    if is_number_if_given (pos (360 * one)) (taken None (codes "angle") args values) then resolution_of fine
    else Err LeftOut
