use Rattle.std.proofs.Common.{◌≡◌, ◌+◌, ◌-◌, ◌^◌, ◌≤◌, drop, min}
use Rattle.scad_shapes.specs.Count.{face_triangles}
use Rattle.scad_modules.proofs.solid.face_triangles.Given as goal

abbrev pub invariant-faces : goal.invariant-faces
invariant-faces l = record {
  counted : min (l.count + face_triangles (drop l.face-index l.faces)) (2 ^ 64 - 1) ≡ min (face_triangles l.faces)
      (2 ^ 64 - 1);
  fits : l.count ≤ 2 ^ 64 - 1;
}
