-- What the arguments of a flat shape say (OpenSCAD User Manual, "square", "circle", "polygon").
use Rattle.std.specs.Prelude.{ℕ, codes, List, [], ◌∷◌, ◌++◌, length, map, ◌==◌, nat_le, ℤ, pos, Bool, true, false, Option, Some, None, Ok, Err, if◌then◌else◌}
use Rattle.std.specs.List.{slice_index_or}
use Rattle.scad_base.specs.Results.{and_then}
use Rattle.scad_ast.specs.Tree.{Arguments}
use Rattle.scad_num.specs.Number.{one}
use Rattle.scad_value.specs.Datum.{Datum, number, Elements, no_elements, element}
use Rattle.scad_value.specs.Products.{count}
use Rattle.scad_modules.specs.declared.fault.ArgumentFault.TheVariants.{BadArgument}
use Rattle.scad_modules.specs.declared.module.Flat.{Flat}
use Rattle.scad_modules.specs.declared.module.Flat.TheVariants.{Square, Circle, Polygon}
use Rattle.scad_modules.specs.Arguments.{taken}
use Rattle.scad_modules.specs.Outline.{Pair, Outline, square, round, path}
use Rattle.scad_modules.specs.Reading.{Read, needed, as_vector, if_size, truth_of, number_at, three_indices, face_of}
use Rattle.scad_modules.specs.Shapes.{Fineness, fragments, common_radius}

abbrev pub pair_at : Elements → Read Pair
pair_at all = and_then (number_at all 0 (pos 0)) (λ x. and_then (number_at all 1 (pos 0)) (λ y. Ok (x, y)))

-- two numbers
abbrev pub exactly_two : Elements → Read Pair
exactly_two all = if count all == 2 then pair_at all else Err BadArgument

abbrev pub pair_of : Datum → Read Pair
pair_of d = and_then (as_vector d) exactly_two

-- ---- `square`
-- each of two sizes
abbrev pub both_sizes : Pair → Read Pair
both_sizes p = and_then (if_size p.0) (λ x. and_then (if_size p.1) (λ y. Ok (x, y)))

-- one size along both axes
abbrev pub same_size : ℤ → Read Pair
same_size z = and_then (if_size z) (λ size. Ok (size, size))

abbrev pub two_sizes : Datum → Read Pair
two_sizes d = and_then (pair_of d) both_sizes

-- a number or two numbers, none of them negative
abbrev pub given_flat_sizes : Datum → Read Pair
given_flat_sizes (number z) = same_size z
given_flat_sizes d = two_sizes d

-- 1 where nothing is given
abbrev pub flat_sizes : Option Datum → Read Pair
flat_sizes None = Ok (pos one, pos one)
flat_sizes (Some d) = given_flat_sizes d

-- `square(size, center)`
abbrev pub square_by : Option Datum → Option Datum → Read (List Outline)
square_by size center = and_then (flat_sizes size) (λ p. Ok (square p.0 p.1 (truth_of center) ∷ []))

-- ---- `circle`
-- `circle(r, d)`
abbrev pub circle_by : Fineness → Option Datum → Option Datum → Read (List Outline)
circle_by fine r d =
    and_then (common_radius d r) (λ radius. and_then (fragments fine radius) (λ n. Ok (round radius n ∷ [])))

-- ---- `polygon`
-- the points that elements are, behind those so far
abbrev pub pairs_onto : List Pair → Elements → Read (List Pair)
pairs_onto so_far no_elements = Ok so_far
pairs_onto so_far (element d more) = and_then (pair_of d) (λ p. pairs_onto (so_far ++ p ∷ []) more)

-- one point at least
abbrev pub some_pairs : Elements → Read (List Pair)
some_pairs all = if nat_le 1 (count all) then pairs_onto [] all else Err BadArgument

-- the points of these indices
abbrev pub points_at : List Pair → List ℕ → List Pair
points_at points indices = map (λ i. slice_index_or points i (pos 0, pos 0)) indices

-- the path that a value is
abbrev pub path_in : List Pair → Datum → Read Outline
path_in points d = and_then (face_of (length points) d) (λ f. Ok (path (points_at points f)))

-- the paths that elements are, behind those so far
abbrev pub paths_onto : List Pair → List Outline → Elements → Read (List Outline)
paths_onto points so_far no_elements = Ok so_far
paths_onto points so_far (element d more) =
    and_then (path_in points d) (λ o. paths_onto points (so_far ++ o ∷ []) more)

-- one path at least
abbrev pub some_paths : List Pair → Elements → Read (List Outline)
some_paths points all = if nat_le 1 (count all) then paths_onto points [] all else Err BadArgument

-- one path of these indices
abbrev pub one_path : List Pair → Elements → Read (List Outline)
one_path points all = and_then (three_indices (length points) all) (λ f. Ok (path (points_at points f) ∷ []))

-- the first element is a number
abbrev pub begins_with_number : Elements → Bool
begins_with_number (element (number z) more) = true
begins_with_number all = false

-- a vector of indices, or a vector of such
abbrev pub given_paths : List Pair → Elements → Read (List Outline)
given_paths points all = if begins_with_number all then one_path points all else some_paths points all

-- all points in order
abbrev pub whole_path : List Pair → Read (List Outline)
whole_path points = if nat_le 3 (length points) then Ok (path points ∷ []) else Err BadArgument

abbrev pub paths_of : List Pair → Option Datum → Read (List Outline)
paths_of points None = whole_path points
paths_of points (Some d) = and_then (as_vector d) (given_paths points)

-- `polygon(points, paths)`: the first path without the later ones
abbrev pub polygon_by : Option Datum → Option Datum → Read (List Outline)
polygon_by points paths =
    and_then (needed points) (λ d. and_then (as_vector d) (λ all. and_then (some_pairs all)
    (λ found. paths_of found paths)))

-- the outlines that the arguments of a flat shape say: it is the first without the others
unfoldable pub outlines_of : Flat → Fineness → Arguments → List Datum → Read (List Outline)
outlines_of Square fine args values =
    square_by (taken (Some 0) (codes "size") args values) (taken (Some 1) (codes "center") args values)
outlines_of Circle fine args values =
    circle_by fine (taken (Some 0) (codes "r") args values) (taken (Some 1) (codes "d") args values)
outlines_of Polygon fine args values =
    polygon_by (taken (Some 0) (codes "points") args values) (taken (Some 1) (codes "paths") args values)
