use Rattle.std.proofs.Common.{◌≡◌, ◌++◌, drop}
use Rattle.scad_solid.specs.Solid.{corners}
use Rattle.scad_solid.proofs.fans.corners.Given as goal

-- the points so far and those of the numbers left are all
abbrev pub invariant-loop-i : goal.invariant-loop-i
invariant-loop-i l = l.corners.items ++ corners l.points (drop l.i-index l.face) ≡ corners l.points l.face
