-- What values are to the modules of the language: numbers, sizes, points, indices. A value of another kind is a
-- bad argument.
use Rattle.std.specs.Prelude.{ℕ, ◌/◌, ◌%◌, ◌==◌, ◌&&◌, nat_le, nat_lt, ℤ, pos, negsuc, int_lt, Bool, false, List, [], ◌∷◌, ◌++◌, Option, Some, None, Result, Ok, Err, if◌then◌else◌}
use Rattle.scad_base.specs.Results.{and_then}
use Rattle.scad_num.specs.Number.{one}
use Rattle.scad_num.specs.Rounding.{half_away}
use Rattle.scad_value.specs.Datum.{Datum, number, vector, Elements, no_elements, element}
use Rattle.scad_value.specs.Comparison.{truth}
use Rattle.scad_value.specs.Products.{nth, count}
use Rattle.scad_modules.specs.declared.fault.ArgumentFault.{ArgumentFault}
use Rattle.scad_modules.specs.declared.fault.ArgumentFault.TheVariants.{BadArgument}

-- what a rule makes of the arguments
abbrev pub Read : Type 0 → Type 0
Read A = Result A ArgumentFault

abbrev pub as_number : Datum → Read ℤ
as_number (number z) = Ok z
as_number _ = Err BadArgument

-- the elements of a vector
abbrev pub as_vector : Datum → Read Elements
as_vector (vector all) = Ok all
as_vector _ = Err BadArgument

-- a size isn't negative
abbrev pub if_size : ℤ → Read ℤ
if_size z = if int_lt z (pos 0) then Err BadArgument else Ok z

abbrev pub size_of : Datum → Read ℤ
size_of d = and_then (as_number d) if_size

-- a value that has to be given
abbrev pub needed : Option Datum → Read Datum
needed None = Err BadArgument
needed (Some d) = Ok d

-- the truth of a value; false where none is given
abbrev pub truth_of : Option Datum → Bool
truth_of None = false
truth_of (Some d) = truth d

-- a point, or a vector of three coordinates
abbrev pub Triple : Type 0
Triple = ℤ × ℤ × ℤ

-- the number at a place of a vector, or another one where nothing stands there
abbrev pub number_at : Elements → ℕ → ℤ → Read ℤ
number_at all i missing = if nat_lt i (count all) then as_number (nth all i) else Ok missing

abbrev pub triple_at : Elements → ℤ → Read Triple
triple_at all missing =
    and_then (number_at all 0 missing) (λ x.
    and_then (number_at all 1 missing) (λ y.
    and_then (number_at all 2 missing) (λ z. Ok (x, y, z))))

-- one to three numbers; what is missing is another number
abbrev pub up_to_three : ℤ → Elements → Read Triple
up_to_three missing all =
    if nat_le 1 (count all) && nat_le (count all) 3 then triple_at all missing else Err BadArgument

abbrev pub coordinates : ℤ → Datum → Read Triple
coordinates missing d = and_then (as_vector d) (up_to_three missing)

-- three numbers
abbrev pub exactly_three : Elements → Read Triple
exactly_three all = if count all == 3 then triple_at all (pos 0) else Err BadArgument

abbrev pub point_of : Datum → Read Triple
point_of d = and_then (as_vector d) exactly_three

-- the points that elements are, behind those so far
abbrev pub points_onto : List Triple → Elements → Read (List Triple)
points_onto so_far no_elements = Ok so_far
points_onto so_far (element d more) = and_then (point_of d) (λ p. points_onto (so_far ++ p ∷ []) more)

-- one point at least
abbrev pub some_points : Elements → Read (List Triple)
some_points all = if nat_le 1 (count all) then points_onto [] all else Err BadArgument

-- a whole number that names one of so many points
abbrev pub whole_below : ℕ → ℤ → Read ℕ
whole_below limit (pos n) = if (n % one == 0) && nat_lt (n / one) limit then Ok (n / one) else Err BadArgument
whole_below limit (negsuc n) = Err BadArgument

abbrev pub index_of : ℕ → Datum → Read ℕ
index_of limit d = and_then (as_number d) (whole_below limit)

-- the indices that elements are, behind those so far
abbrev pub indices_onto : ℕ → List ℕ → Elements → Read (List ℕ)
indices_onto limit so_far no_elements = Ok so_far
indices_onto limit so_far (element d more) =
    and_then (index_of limit d) (λ i. indices_onto limit (so_far ++ i ∷ []) more)

-- three indices at least
abbrev pub three_indices : ℕ → Elements → Read (List ℕ)
three_indices limit all = if nat_le 3 (count all) then indices_onto limit [] all else Err BadArgument

-- a face over so many points
abbrev pub face_of : ℕ → Datum → Read (List ℕ)
face_of limit d = and_then (as_vector d) (three_indices limit)

-- the faces that elements are, behind those so far
abbrev pub faces_onto : ℕ → List (List ℕ) → Elements → Read (List (List ℕ))
faces_onto limit so_far no_elements = Ok so_far
faces_onto limit so_far (element d more) = and_then (face_of limit d) (λ f. faces_onto limit (so_far ++ f ∷ []) more)

-- one face at least
abbrev pub some_faces : ℕ → Elements → Read (List (List ℕ))
some_faces limit all = if nat_le 1 (count all) then faces_onto limit [] all else Err BadArgument

-- a diameter's half, rounded half away, where it is given; else another radius
abbrev pub half_or : Option Datum → Read ℤ → Read ℤ
half_or None other = other
half_or (Some d) other = and_then (size_of d) (λ z. Ok (half_away z 2))

-- a radius, where it is given; else another one
abbrev pub radius_or : Option Datum → Read ℤ → Read ℤ
radius_or None other = other
radius_or (Some d) other = size_of d
