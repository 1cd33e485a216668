-- Polyhedra of given points and faces (OpenSCAD User Manual, "polyhedron").
use Rattle.std.specs.Prelude.{ℕ, List, Bool, map, if◌then◌else◌, Result, Ok, Err, ℤ}
use Rattle.std.specs.List.{list_all}
use Rattle.scad_geom.specs.declared.point3.Pt3.{Pt3}
use Rattle.scad_geom.specs.PointRange.{is_in_range}
use Rattle.scad_solid.specs.declared.triangle.Triangle.{Triangle}
use Rattle.scad_solid.specs.Solid.{corners, fans, names_points}
use Rattle.scad_solid.specs.Surface.{is_closed}
use Rattle.scad_matrix.specs.declared.matrix.Matrix.{Matrix}
use Rattle.scad_matrix.specs.Matrix.{placed_point}
use Rattle.scad_shapes.specs.declared.fault.ShapeFault.{ShapeFault}
use Rattle.scad_shapes.specs.declared.fault.ShapeFault.TheVariants.{CoordinateRange, NotClosed}

-- all points, each placed by the whole matrix
abbrev pub placed_points : Matrix → List (ℤ × ℤ × ℤ) → List Pt3
placed_points m points = map (λ p. placed_point m p.0 p.1 p.2) points

-- each face names points alone
abbrev pub name_points : ℕ → List (List ℕ) → Bool
name_points count faces = list_all (λ face. names_points count face) faces

-- the triangles of the faces, or NotClosed
abbrev pub if_closed : List Triangle → Result (List Triangle) ShapeFault
if_closed ts = if is_closed ts then Ok ts else Err NotClosed

-- the solid of the faces over these points, or CoordinateRange where a placed coordinate is out of range
abbrev pub polyhedron_of : List (ℤ × ℤ × ℤ) → List (List ℕ) → Matrix → Result (List Triangle) ShapeFault
polyhedron_of points faces m =
    if list_all is_in_range (placed_points m points) then if_closed (fans (map (corners (placed_points m points)) faces)) else Err CoordinateRange
