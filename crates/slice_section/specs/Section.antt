-- The section of a surface at a layer: its cuts, rounded to whole micrometres.
use Rattle.std.specs.Prelude.{ℕ, ℤ, List, map, filter}
use Rattle.scad_geom.specs.declared.point.Edge.{Edge}
use Rattle.winding_laws.specs.Edges.{rounded_edge, has_length}
use Rattle.scad_solid.specs.declared.triangle.Triangle.{Triangle}
use Rattle.scad_solid.specs.Cut.{cuts_of, plane_of}

-- the cuts at a plane in the order of the triangles, with both ends rounded, without those whose ends coincide
abbrev pub edges_at : ℤ → List Triangle → List Edge
edges_at plane ts = filter has_length (map rounded_edge (cuts_of plane ts))

-- those at the plane of a layer
abbrev pub section_of : List Triangle → ℕ → ℕ → List Edge
section_of ts layer h = edges_at (plane_of layer h) ts
