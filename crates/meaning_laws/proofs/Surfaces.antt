-- A shape's surface is that of a solid, or its fault is of the source.
use Rattle.std.proofs.Common.{◌≡◌, ℕ, zero, suc, ◌==◌, Bool, true, false, List, map, length, Result, Ok, Err, ℤ, ◌+ℤ◌}
use Rattle.std.proofs.Common.{if◌then◌else◌, refl, sym, ap, ◌∙◌, arith}
use Rattle.std.specs.List.{list_all, range_with_len}
use Rattle.std.proofs.lemmas.Bool.{and_from}
use Rattle.std.proofs.lemmas.Bool.Decides.{nat_tests}
use Rattle.std.proofs.lemmas.List.{length-map}
use Rattle.std.proofs.lemmas.List.FromFn.{length-range_with_len}
use Rattle.scad_geom.specs.declared.point3.Pt3.{Pt3}
use Rattle.scad_geom.specs.PointRange.{is_in_range}
use Rattle.scad_solid.specs.declared.triangle.Triangle.{Triangle}
use Rattle.scad_solid.specs.Solid.{IsSolid, corners, fans}
use Rattle.scad_solid.specs.Stack.{stacked, are_alike, rings_in_range}
use Rattle.scad_solid.specs.Surface.{is_closed}
use Rattle.scad_solid.specs.Wrap.{wrapped}
use Rattle.scad_solid.proofs.Flow.{is_closed-alike}
use Rattle.scad_solid.proofs.InRange.{stacked_in_range, fans_in_range}
use Rattle.scad_solid.proofs.ClosedWays.{is_closed-wrapped, wrapped_in_range}
use Rattle.scad_matrix.specs.declared.matrix.Matrix.{Matrix}
use Rattle.scad_shapes.specs.declared.fault.ShapeFault.{ShapeFault}
use Rattle.scad_shapes.specs.declared.fault.ShapeFault.TheVariants.{CoordinateRange, NotClosed, Memory}
use Rattle.scad_shapes.specs.Outline.{start_of, rectangle, circle}
use Rattle.scad_shapes.specs.Polyhedron.{placed_points, if_closed, polyhedron_of}
use Rattle.scad_shapes.specs.Rings.{placed_ring, two_rings, cube_rings, cylinder_rings, sphere_rings_of, solid_of_rings}
use Rattle.scad_shapes.proofs.Solids.{alike-map, alike-sphere}
use Rattle.scad_extrude.specs.Linear.{linear_rings}
use Rattle.scad_extrude.specs.Revolution.{turned_ring_at, turned_rings, turned_of}
use Rattle.scad_modules.specs.Primitive.{Primitive, cube, sphere, cylinder, polyhedron, solid_of}

abbrev pub IsSolidOr : Result (List Triangle) ShapeFault → Type 0
IsSolidOr (Ok ts) = IsSolid ts
IsSolidOr (Err CoordinateRange) = Unit {0}
IsSolidOr (Err NotClosed) = Unit {0}
IsSolidOr (Err Memory) = ⊥

-- ---- rings
-- stacked rings of one length
solid-rings : (rings : List (List Pt3)) → are_alike rings ≡ true → IsSolidOr (solid_of_rings rings)
solid-rings rings alike = by (rings_in_range rings) refl
  where
    by : (b : Bool) → rings_in_range rings ≡ b → IsSolidOr (if b then Ok (stacked rings) else Err CoordinateRange)
    by true ranged = record { closed = is_closed-alike rings alike; in_range = stacked_in_range rings ranged }
    by false ranged = tt

-- rings of one length round the axis
pub solid-turned : (outline : List (ℤ × ℤ)) (turns : ℕ) (m : Matrix) → IsSolidOr (turned_of outline turns m)
solid-turned outline turns m = by (rings_in_range (turned_rings outline turns m)) refl
  where
    long : (j : ℕ) → length (turned_ring_at outline turns m j) ≡ length outline
    long j = simp (length-map)

    alike : (count : ℕ) → are_alike (map (turned_ring_at outline turns m) (range_with_len 0 count)) ≡ true
    alike zero = refl
    alike (suc count) =
        let later = map (turned_ring_at outline turns m) (range_with_len 1 count) in
        ap (λ l. list_all (λ ring. length ring == l) later) (long 0)
        ∙ alike-map (turned_ring_at outline turns m) (length outline) 1 count long

    by : (b : Bool) → rings_in_range (turned_rings outline turns m) ≡ b
        → IsSolidOr (if b then Ok (wrapped (turned_rings outline turns m)) else Err CoordinateRange)
    by true ranged =
        record {
          closed = is_closed-wrapped (turned_rings outline turns m) (alike turns);
          in_range = wrapped_in_range (turned_rings outline turns m) ranged;
        }
    by false ranged = tt

-- two outlines of one length
alike-two : (m : Matrix) (bottom top : List (ℤ × ℤ)) (low high : ℤ) → length bottom ≡ length top
    → are_alike (two_rings m bottom top low high) ≡ true
alike-two m bottom top low high same = and_from _ _ refl (and_from _ _ tested refl)
  where
    tested : (length (placed_ring m low bottom) == length (placed_ring m high top)) ≡ true
    tested = grind (arith, nat_tests, length-map, same)

pub solid-linear : (outline : List (ℤ × ℤ)) (height : ℤ) (center : Bool) (m : Matrix)
    → IsSolidOr (solid_of_rings (linear_rings outline height center m))
solid-linear outline height center m =
    let start = start_of height center in
    solid-rings (linear_rings outline height center m) (alike-two m outline outline start (start +ℤ height) refl)

-- ---- polyhedra
solid-polyhedron : (points : List (ℤ × ℤ × ℤ)) (faces : List (List ℕ)) (m : Matrix)
    → IsSolidOr (polyhedron_of points faces m)
solid-polyhedron points faces m = by (list_all is_in_range placed) refl
  where
    placed : List Pt3
    placed = placed_points m points

    ts : List Triangle
    ts = fans (map (corners placed) faces)

    if_ranged : (b : Bool) → is_closed ts ≡ b → list_all is_in_range placed ≡ true
        → IsSolidOr (if b then Ok ts else Err NotClosed)
    if_ranged true closed ranged = record { closed = closed; in_range = fans_in_range placed faces ranged }
    if_ranged false closed ranged = tt

    by : (b : Bool) → list_all is_in_range placed ≡ b → IsSolidOr (if b then if_closed ts else Err CoordinateRange)
    by true ranged = if_ranged (is_closed ts) refl ranged
    by false ranged = tt

-- ---- primitives
length-circle : (r : ℤ) (n : ℕ) → length (circle r n) ≡ n
length-circle r n = simp (length-map, length-range_with_len)

pub solid-primitive : (p : Primitive) (m : Matrix) → IsSolidOr (solid_of p m)
solid-primitive (cube x y z center) m =
    let start = start_of z center in
    solid-rings (cube_rings x y z center m)
    (alike-two m (rectangle x y center) (rectangle x y center) start (start +ℤ z) refl)
solid-primitive (sphere r n) m = solid-rings (sphere_rings_of r n m) (alike-sphere r n m)
solid-primitive (cylinder h bottom top n center) m =
    let start = start_of h center in
    solid-rings (cylinder_rings h bottom top n center m)
    (alike-two m (circle bottom n) (circle top n) start (start +ℤ h)
    (length-circle bottom n ∙ sym (length-circle top n)))
solid-primitive (polyhedron points faces) m = solid-polyhedron points faces m
