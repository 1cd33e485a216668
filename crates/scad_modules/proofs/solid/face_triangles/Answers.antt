use Rattle.std.proofs.Common.{◌≡◌, drop, arith}
use Rattle.scad_shapes.specs.Count.{face_triangles}
use Rattle.scad_modules.proofs.Faces.{faces-drop_all}
use Rattle.scad_modules.proofs.solid.face_triangles.Goals as goal

pub returns : goal.returns
returns c =
    let none : face_triangles (drop c.faces.face-index c.args.faces.now) ≡ 0 = faces-drop_all c.args.faces.now
    c.faces.face-index (omega arith) in
    let all = c.faces.invariant.counted in
    omega (arith, none, all)
