use Rattle.std.proofs.Common.{◌≡◌, drop}
use Rattle.scad_solid.specs.Height.{highest_of, higher_of}
use Rattle.scad_solid.proofs.triangles.Triangles.highest.Given as goal

-- the highest so far and that of the triangles left give that of all
abbrev pub invariant-loop-triangle : goal.invariant-loop-triangle
invariant-loop-triangle l = higher_of l.highest (highest_of (drop l.triangle-index l.triangle-items))
    ≡ highest_of l.triangle-items
