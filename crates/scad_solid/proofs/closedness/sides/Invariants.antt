use Rattle.std.proofs.Common.{◌≡◌, ◌++◌, drop}
use Rattle.scad_solid.specs.Surface.{sides}
use Rattle.scad_solid.proofs.closedness.sides.Given as goal

-- the sides so far and those of the triangles left are all
abbrev pub invariant-loop-triangle : goal.invariant-loop-triangle
invariant-loop-triangle l = l.sides.items ++ sides (drop l.triangle-index l.triangles) ≡ sides l.triangles
