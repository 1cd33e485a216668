-- The arguments of flat shapes and of extrusions are never refused for want of memory.
use Rattle.std.proofs.Common.{◌*◌, ◌==◌, ◌++◌, pos, List, [], ◌∷◌, length, nat_le, Option, Some, None, Result}
use Rattle.std.proofs.Common.{Ok, Err, codes}
use Rattle.scad_ast.specs.Tree.{Arguments}
use Rattle.scad_num.specs.Number.{one}
use Rattle.scad_matrix.specs.declared.matrix.Matrix.{Matrix}
use Rattle.scad_matrix.specs.declared.matrix.MatrixFault.{MatrixFault}
use Rattle.scad_matrix.specs.declared.matrix.MatrixFault.TheVariants.{Range}
use Rattle.scad_matrix.specs.Matrix.{placed_profile}
use Rattle.scad_value.specs.Datum.{Datum, undef, boolean, number, string, vector, range, Elements, no_elements, element}
use Rattle.scad_value.specs.Products.{count}
use Rattle.scad_modules.specs.declared.module.Flat.{Flat}
use Rattle.scad_modules.specs.declared.module.Flat.TheVariants.{Square, Circle, Polygon}
use Rattle.scad_modules.specs.Arguments.{taken}
use Rattle.scad_modules.specs.Shapes.{Fineness}
use Rattle.scad_modules.specs.Outline.{Pair, Outline}
use Rattle.scad_modules.specs.FlatShapes.{pair_at, pair_of, two_sizes, given_flat_sizes, flat_sizes, square_by}
use Rattle.scad_modules.specs.FlatShapes.{circle_by}
use Rattle.scad_modules.specs.FlatShapes.{pairs_onto, some_pairs, path_in, paths_onto, some_paths, one_path}
use Rattle.scad_modules.specs.FlatShapes.{begins_with_number, given_paths, paths_of, polygon_by, outlines_of}
use Rattle.scad_modules.specs.Extrusions.{is_plain, is_number_if_given, extruded_height, linear_by, turned_by}
use Rattle.scad_modules.specs.Profile.{in_numbers, profile_onto, profile_of}
use Rattle.meaning_laws.proofs.Faults.{ok, err, bind, either}
use Rattle.meaning_laws.proofs.MemoryWants.{Reads, bad, reads-vector, reads-size, reads-size_of, reads-needed, reads-at}
use Rattle.meaning_laws.proofs.MemoryWants.{reads-three, reads-face}
use Rattle.meaning_laws.proofs.ReadSolids.{reads-resolution, reads-fragments, reads-common}

-- ---- `square`, `circle`
reads-pair_at : (all : Elements) → Reads (pair_at all)
reads-pair_at all = bind (reads-at all 0 (pos 0)) (λ x. bind (reads-at all 1 (pos 0)) (λ y. ok))

reads-pair : (d : Datum) → Reads (pair_of d)
reads-pair d = bind (reads-vector d) (λ all. either (count all == 2) (reads-pair_at all) bad)

reads-two_sizes : (d : Datum) → Reads (two_sizes d)
reads-two_sizes d = bind (reads-pair d) (λ p. bind (reads-size p.0) (λ x. bind (reads-size p.1) (λ y. ok)))

reads-given : (d : Datum) → Reads (given_flat_sizes d)
reads-given (number z) = bind (reads-size z) (λ size. ok)
reads-given undef = reads-two_sizes undef
reads-given (boolean b) = reads-two_sizes (boolean b)
reads-given (string chars) = reads-two_sizes (string chars)
reads-given (vector all) = reads-two_sizes (vector all)
reads-given (range a s b) = reads-two_sizes (range a s b)

reads-sizes : (d : Option Datum) → Reads (flat_sizes d)
reads-sizes None = ok
reads-sizes (Some d) = reads-given d

reads-square : (size center : Option Datum) → Reads (square_by size center)
reads-square size center = bind (reads-sizes size) (λ p. ok)

reads-circle : (fine : Fineness) (r d : Option Datum) → Reads (circle_by fine r d)
reads-circle fine r d = bind (reads-common d r) (λ radius. bind (reads-fragments fine radius) (λ n. ok))

-- ---- `polygon`
reads-pairs : (so_far : List Pair) (all : Elements) → Reads (pairs_onto so_far all)
reads-pairs so_far no_elements = ok
reads-pairs so_far (element d more) = bind (reads-pair d) (λ p. reads-pairs (so_far ++ p ∷ []) more)

reads-some_pairs : (all : Elements) → Reads (some_pairs all)
reads-some_pairs all = either (nat_le 1 (count all)) (reads-pairs [] all) bad

reads-path : (points : List Pair) (d : Datum) → Reads (path_in points d)
reads-path points d = bind (reads-face (length points) d) (λ f. ok)

reads-paths : (points : List Pair) (so_far : List Outline) (all : Elements) → Reads (paths_onto points so_far all)
reads-paths points so_far no_elements = ok
reads-paths points so_far (element d more) =
    bind (reads-path points d) (λ o. reads-paths points (so_far ++ o ∷ []) more)

reads-some_paths : (points : List Pair) (all : Elements) → Reads (some_paths points all)
reads-some_paths points all = either (nat_le 1 (count all)) (reads-paths points [] all) bad

reads-one_path : (points : List Pair) (all : Elements) → Reads (one_path points all)
reads-one_path points all = bind (reads-three (length points) all) (λ f. ok)

reads-given_paths : (points : List Pair) (all : Elements) → Reads (given_paths points all)
reads-given_paths points all =
    either (begins_with_number all) (reads-one_path points all) (reads-some_paths points all)

reads-paths_of : (points : List Pair) (d : Option Datum) → Reads (paths_of points d)
reads-paths_of points None = either (nat_le 3 (length points)) ok bad
reads-paths_of points (Some d) = bind (reads-vector d) (reads-given_paths points)

reads-polygon : (points paths : Option Datum) → Reads (polygon_by points paths)
reads-polygon points paths =
    bind (reads-needed points) (λ d. bind (reads-vector d) (λ all.
    bind (reads-some_pairs all) (λ found. reads-paths_of found paths)))

pub reads-outlines : (f : Flat) (fine : Fineness) (args : Arguments) (values : List Datum)
    → Reads (outlines_of f fine args values)
unfolding outlines_of
reads-outlines Square fine args values =
    reads-square (taken (Some 0) (codes "size") args values) (taken (Some 1) (codes "center") args values)
reads-outlines Circle fine args values =
    reads-circle fine (taken (Some 0) (codes "r") args values) (taken (Some 1) (codes "d") args values)
reads-outlines Polygon fine args values =
    reads-polygon (taken (Some 0) (codes "points") args values) (taken (Some 1) (codes "paths") args values)

-- ---- extrusions
reads-extruded : (d : Option Datum) → Reads (extruded_height d)
reads-extruded None = ok
reads-extruded (Some d) = reads-size_of d

pub reads-linear : (args : Arguments) (values : List Datum) → Reads (linear_by args values)
unfolding linear_by
reads-linear args values =
    let height = taken (Some 0) (codes "height") args values in
    either (is_plain args values) (bind (reads-extruded height) (λ h. ok)) (err tt)

pub reads-turned : (fine : Fineness) (args : Arguments) (values : List Datum) → Reads (turned_by fine args values)
unfolding turned_by
reads-turned fine args values =
    let angle = taken None (codes "angle") args values in
    either (is_number_if_given (pos (360 * one)) angle) (reads-resolution fine) (err tt)

-- ---- profiles
reads-in_numbers : (r : Result Pair MatrixFault) → Reads (in_numbers r)
reads-in_numbers (Ok p) = ok
reads-in_numbers (Err Range) = err tt

reads-onto : (m : Matrix) (so_far ring : List Pair) → Reads (profile_onto m so_far ring)
reads-onto m so_far [] = ok
reads-onto m so_far (p ∷ more) =
    bind (reads-in_numbers (placed_profile m p.0 p.1)) (λ q. reads-onto m (so_far ++ q ∷ []) more)

pub reads-profile : (m : Matrix) (ring : List Pair) → Reads (profile_of m ring)
reads-profile m ring = reads-onto m [] ring
