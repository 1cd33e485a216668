-- Triangles in range.
use Rattle.std.specs.Prelude.{Bool, ◌&&◌}
use Rattle.scad_geom.specs.PointRange.{is_in_range}
use Rattle.scad_solid.specs.declared.triangle.Triangle.{Triangle}

-- all corners of the triangle are in range
abbrev pub is_triangle_in_range : Triangle → Bool
is_triangle_in_range t = is_in_range t.a && (is_in_range t.b && is_in_range t.c)
