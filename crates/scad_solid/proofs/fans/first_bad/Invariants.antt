use Rattle.std.proofs.Common.{◌≡◌, drop}
use Rattle.scad_solid.specs.Solid.{first_bad}
use Rattle.scad_solid.proofs.fans.first_bad.Given as goal

-- the first bad number stands in the faces left
abbrev pub invariant-loop-face : goal.invariant-loop-face
invariant-loop-face l = first_bad l.count (drop l.face-index l.faces) ≡ first_bad l.count l.faces
