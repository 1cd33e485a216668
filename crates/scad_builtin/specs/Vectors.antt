-- Functions of vectors (OpenSCAD User Manual, "Mathematical Functions", "List Concatenation").
use Rattle.std.specs.Prelude.{ℕ, Bool, ◌&&◌, List, length, ◌==◌, slice_index_or, ℤ, pos, Result, Ok, Err, if◌then◌else◌}
use Rattle.scad_value.specs.Datum.{Datum, undef, number, string, vector, Elements, no_elements, element}
use Rattle.scad_value.specs.Products.{count}
use Rattle.scad_builtin.specs.declared.fault.BuiltinFault.{BuiltinFault}
use Rattle.scad_builtin.specs.declared.fault.BuiltinFault.TheVariants.{BadArgument}
use Rattle.scad_builtin.specs.Fault.{judged, and_then}
use Rattle.scad_builtin.specs.Numbers.{minor_of, whole_number}

-- what `min` and `max` choose from: the elements of the first argument, where it is a vector, else the arguments
abbrev pub choices_from : Datum → Elements → Elements
choices_from (vector all) args = all
choices_from _ args = args

abbrev pub choices : Elements → Elements
choices no_elements = no_elements
choices (element d more) = choices_from d (element d more)

-- how many elements or characters a value has
abbrev pub length_of : Datum → Result Datum BuiltinFault
length_of (vector all) = and_then (whole_number (count all)) (λ z. Ok (number z))
length_of (string chars) = and_then (whole_number (length chars)) (λ z. Ok (number z))
length_of _ = Ok undef

-- elements before more of them
abbrev pub appended : Elements → Elements → Elements
appended no_elements more = more
appended (element d all) more = element d (appended all more)

-- the elements of a vector, or the value itself, before more
abbrev pub spread : Datum → Elements → Elements
spread (vector all) more = appended all more
spread d more = element d more

-- the elements of vectors, and the other values as they are
abbrev pub joined : Elements → Elements
joined no_elements = no_elements
joined (element d more) = spread d (joined more)

-- one number of a cross product: a_i * b_j - a_j * b_i
abbrev pub cross_entry : List ℤ → List ℤ → ℕ → ℕ → Result ℤ BuiltinFault
cross_entry a b i j =
    judged (minor_of (slice_index_or a i (pos 0)) (slice_index_or a j (pos 0)) (slice_index_or b i (pos 0)) (slice_index_or b j (pos 0)))

abbrev pub have_length : ℕ → List ℤ → List ℤ → Bool
have_length n a b = length a == n && length b == n

abbrev pub triple : ℤ → ℤ → ℤ → Datum
triple x y z = vector (element (number x) (element (number y) (element (number z) no_elements)))

-- the cross product of two vectors of three numbers; of two vectors of two numbers the one number a_0 * b_1 - a_1 * b_0
abbrev pub cross_of : List ℤ → List ℤ → Result Datum BuiltinFault
cross_of a b =
    if have_length 2 a b then and_then (cross_entry a b 0 1) (λ z. Ok (number z))
    else (if have_length 3 a b then
    and_then (cross_entry a b 1 2) (λ x.
    and_then (cross_entry a b 2 0) (λ y.
    and_then (cross_entry a b 0 1) (λ z.
    Ok (triple x y z))))
    else Err BadArgument)
