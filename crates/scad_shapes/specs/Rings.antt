-- The placed rings of cubes, cylinders and spheres, and the solids of these rings: the top ring from its last point to
-- its first, quads a_j a_k b_k b_j from each ring a to the next one b below it, the bottom ring from its first point
-- to its last.
use Rattle.std.specs.Prelude.{ℕ, List, [], ◌∷◌, Bool, map, if◌then◌else◌, Result, Ok, Err, ℤ, pos, ◌+ℤ◌}
use Rattle.std.specs.List.{list_all, range_with_len}
use Rattle.scad_geom.specs.declared.point3.Pt3.{Pt3}
use Rattle.scad_geom.specs.PointRange.{is_in_range}
use Rattle.scad_solid.specs.declared.triangle.Triangle.{Triangle}
use Rattle.scad_solid.specs.Stack.{stacked, rings_in_range}
use Rattle.scad_cos.specs.Cosine.{cosine, sine}
use Rattle.scad_matrix.specs.declared.matrix.Matrix.{Matrix}
use Rattle.scad_matrix.specs.Matrix.{placed_point}
use Rattle.scad_shapes.specs.declared.fault.ShapeFault.{ShapeFault}
use Rattle.scad_shapes.specs.declared.fault.ShapeFault.TheVariants.{CoordinateRange}
use Rattle.scad_shapes.specs.Outline.{start_of, rectangle, circle, part_of, sphere_rings, polar_angle}

-- the points of an outline at a height, each placed by the whole matrix
abbrev pub placed_ring : Matrix → ℤ → List (ℤ × ℤ) → List Pt3
placed_ring m z outline = map (λ p. placed_point m p.0 p.1 z) outline

-- the rings of the prism or cone between an outline at a lower height and one at an upper height, the upper one first
abbrev pub two_rings : Matrix → List (ℤ × ℤ) → List (ℤ × ℤ) → ℤ → ℤ → List (List Pt3)
two_rings m bottom top low high = placed_ring m high top ∷ placed_ring m low bottom ∷ []

-- a cube of these sizes
abbrev pub cube_rings : ℤ → ℤ → ℤ → Bool → Matrix → List (List Pt3)
cube_rings x y z center m = two_rings m (rectangle x y center) (rectangle x y center) (start_of z center) (start_of z center +ℤ z)

-- a cylinder of height h, with radius r1 at the bottom and r2 at the top, centred along z alone
abbrev pub cylinder_rings : ℤ → ℤ → ℤ → ℕ → Bool → Matrix → List (List Pt3)
cylinder_rings h r1 r2 n center m = two_rings m (circle r1 n) (circle r2 n) (start_of h center) (start_of h center +ℤ h)

-- the ring of a sphere that stands at a polar angle
abbrev pub sphere_ring : ℤ → ℕ → Matrix → ℤ → List Pt3
sphere_ring r n m angle = placed_ring m (part_of r (cosine angle)) (circle (part_of r (sine angle)) n)

-- ring i of a sphere from the top
abbrev pub sphere_ring_at : ℤ → ℕ → Matrix → ℕ → List Pt3
sphere_ring_at r n m i = sphere_ring r n m (pos (polar_angle (sphere_rings n) i))

-- the rings of a sphere, from the top downwards
abbrev pub sphere_rings_of : ℤ → ℕ → Matrix → List (List Pt3)
sphere_rings_of r n m = map (sphere_ring_at r n m) (range_with_len 0 (sphere_rings n))

-- the points of a ring, or CoordinateRange where one is out of range
abbrev pub ring_if_in_range : List Pt3 → Result (List Pt3) ShapeFault
ring_if_in_range ring = if list_all is_in_range ring then Ok ring else Err CoordinateRange

-- the solid of placed rings, or CoordinateRange where a coordinate is out of range
abbrev pub solid_of_rings : List (List Pt3) → Result (List Triangle) ShapeFault
solid_of_rings rings = if rings_in_range rings then Ok (stacked rings) else Err CoordinateRange
