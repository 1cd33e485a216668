-- What is known of hulls that there are.
use Rattle.std.proofs.Common.{◌≡◌, ◌<◌, ◌≤◌, List, length, Some, Ok}
use Rattle.std.specs.Prelude.{ℤ}
use Rattle.scad_geom.specs.declared.point3.Pt3.{Pt3}
use Rattle.scad_solid.specs.declared.triangle.Triangle.{Triangle}
use Rattle.scad_hull.specs.Faces.{hull_of}
use Rattle.scad_hull.specs.Flat.{ring_hull_of}
use Rattle.scad_hull.specs.Laws.{RingsAreConvex}
use Rattle.hull_laws.specs.Laws.{HullsAreSolids}

pub solid-some : (law : HullsAreSolids) (points : List Pt3) (ts : List Triangle) → hull_of points ≡ Ok (Some ts)
    → 0 < length ts
solid-some law points ts is = law.some points ts is

pub ring-three : (law : RingsAreConvex) (points ring : List (ℤ × ℤ)) → ring_hull_of points ≡ Ok (Some ring)
    → 3 ≤ length ring
ring-three law points ring is = (law.each points ring is).three

pub ruleset hulls = (solid-some, ring-three)
