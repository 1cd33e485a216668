-- Outlines turned round the z axis (OpenSCAD User Manual, "rotate_extrude"): a point (x, y) of the outline stands at
-- (x cos, x sin, y) in each turn, and each side of it sweeps a quad from each turn to the next.
use Rattle.std.specs.Prelude.{ℕ, List, map, if◌then◌else◌, Result, Ok, Err, ℤ, pos}
use Rattle.std.specs.List.{range_with_len}
use Rattle.scad_geom.specs.declared.point3.Pt3.{Pt3}
use Rattle.scad_solid.specs.declared.triangle.Triangle.{Triangle}
use Rattle.scad_solid.specs.Stack.{rings_in_range}
use Rattle.scad_solid.specs.Wrap.{wrapped}
use Rattle.scad_cos.specs.Cosine.{cosine, sine}
use Rattle.scad_cos.specs.Circle.{vertex_angle_of}
use Rattle.scad_matrix.specs.declared.matrix.Matrix.{Matrix}
use Rattle.scad_matrix.specs.Matrix.{placed_point}
use Rattle.scad_shapes.specs.declared.fault.ShapeFault.{ShapeFault}
use Rattle.scad_shapes.specs.declared.fault.ShapeFault.TheVariants.{CoordinateRange}
use Rattle.scad_shapes.specs.Outline.{part_of}

-- a point of an outline in a turn whose angle has this cosine and this sine, placed by the whole matrix
abbrev pub turned_point : Matrix → ℤ → ℤ → ℤ × ℤ → Pt3
turned_point m c s p = placed_point m (part_of p.0 c) (part_of p.0 s) p.1

-- the outline in such a turn
abbrev pub turned_ring : Matrix → ℤ → ℤ → List (ℤ × ℤ) → List Pt3
turned_ring m c s outline = map (turned_point m c s) outline

-- the angle of turn j of n, in thousandths of a degree
abbrev pub turn_angle : ℕ → ℕ → ℤ
turn_angle j n = pos (vertex_angle_of j n)

-- the outline in turn j of n
abbrev pub turned_ring_at : List (ℤ × ℤ) → ℕ → Matrix → ℕ → List Pt3
turned_ring_at outline n m j = turned_ring m (cosine (turn_angle j n)) (sine (turn_angle j n)) outline

-- the placed rings of all turns
abbrev pub turned_rings : List (ℤ × ℤ) → ℕ → Matrix → List (List Pt3)
turned_rings outline n m = map (turned_ring_at outline n m) (range_with_len 0 n)

-- the solid of an outline in n turns, or CoordinateRange where a placed coordinate is out of range
abbrev pub turned_of : List (ℤ × ℤ) → ℕ → Matrix → Result (List Triangle) ShapeFault
turned_of outline n m = if rings_in_range (turned_rings outline n m) then Ok (wrapped (turned_rings outline n m)) else Err CoordinateRange
