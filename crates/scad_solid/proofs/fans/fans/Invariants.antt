use Rattle.std.proofs.Common.{◌≡◌, ◌++◌, drop, length, map, None}
use Rattle.scad_solid.specs.Solid.{corners, fans, first_bad}
use Rattle.scad_solid.proofs.fans.fans.Given as goal

-- the fans so far and those of the faces left are all, and no number of a face left is bad
abbrev pub invariant-loop-face : goal.invariant-loop-face
invariant-loop-face l = record {
  made : l.triangles.items ++ fans (map (corners l.points) (drop l.face-index l.faces))
      ≡ fans (map (corners l.points) l.faces);
  named : first_bad (length l.points) (drop l.face-index l.faces) ≡ None;
}
