-- The exact cuts of a tree at the plane of a layer, and the points that are clear of them.
use Rattle.std.specs.Prelude.{ℕ, List, flat_map, ℤ, pos, All}
use Rattle.scad_geom.specs.Point.{Point}
use Rattle.scad_geom.specs.Segment.{Segment}
use Rattle.scad_geom.specs.Near.{IsClear}
use Rattle.scad_solid.specs.Cut.{cuts_of, plane_of}
use Rattle.scad_tree.specs.Solid.{Solid}
use Rattle.scad_tree.specs.Order.{surfaces}

-- the cuts of all surfaces of a tree at a plane, with nothing rounded
abbrev pub cuts_at : ℤ → Solid → List Segment
cuts_at plane s = flat_map (cuts_of plane) (surfaces s)

-- no point of a cut lies within one micrometre of q along both axes
abbrev pub IsClearOfCuts : ℕ → ℕ → Solid → Point → Type 0
IsClearOfCuts layer h s q = All (λ c. IsClear (pos 2) q c.from c.to) (cuts_at (plane_of layer h) s)
