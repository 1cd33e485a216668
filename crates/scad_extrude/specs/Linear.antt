-- Prisms over flat outlines (OpenSCAD User Manual, "linear_extrude").
use Rattle.std.specs.Prelude.{List, Bool, ℤ, ◌+ℤ◌}
use Rattle.scad_geom.specs.declared.point3.Pt3.{Pt3}
use Rattle.scad_matrix.specs.declared.matrix.Matrix.{Matrix}
use Rattle.scad_shapes.specs.Outline.{start_of}
use Rattle.scad_shapes.specs.Rings.{two_rings}

-- the placed rings of a prism of this height over an outline, from the plane z = 0 upwards or half of it below that plane
abbrev pub linear_rings : List (ℤ × ℤ) → ℤ → Bool → Matrix → List (List Pt3)
linear_rings outline height center m = two_rings m outline outline (start_of height center) (start_of height center +ℤ height)
