use Rattle.std.proofs.Common.{ℕ, List, length, map, ◌++◌, refl, ap, ◌∙◌}
use Rattle.scad_solid.specs.Solid.{corners, fan, fans}
use Rattle.scad_solid.proofs.Collected.{collected-all}
use Rattle.scad_solid.proofs.Faces.{first_bad-none_at, names_points-found_none, fans-more}
use Rattle.scad_solid.proofs.fans.fans.Goals as goal

pub corners-requires : goal.corners-requires
corners-requires c =
    let none = first_bad-none_at (length c.args.points.now) c.args.faces.now c.loop-face.face-index c.face-item.result
    c.loop-face-test.true c.face-item.is c.loop-face.invariant.named in
    rw c.as_slice.ensures (names_points-found_none (length c.args.points.now) c.face-item.result none.0)

pub loop-face-preserved : goal.loop-face-preserved
loop-face-preserved c = record {
  made = fans-more c.args.points.now c.args.faces.now c.loop-face.face-index c.face-item.result _ _ _
      c.loop-face-test.true c.face-item.is c.loop-face.invariant.made
      (c.in_ok-push_fan.ensures ∙ ap (λ ps. c.loop-face.triangles.items ++ fan ps)
      (c.as_slice-in-loop-face.ensures.value ∙ rw c.as_slice.ensures at c.in_ok-corners.ensures));
  named = (first_bad-none_at (length c.args.points.now) c.args.faces.now c.loop-face.face-index c.face-item.result
      c.loop-face-test.true c.face-item.is c.loop-face.invariant.named).1;
}

pub returns : goal.returns
returns c =
    let made = λ (faces : List (List ℕ)). fans (map (corners c.args.points.now) faces) in
    collected-all made c.args.faces.now c.loop-face.face-index c.loop-face-test.false refl
    c.loop-face.triangles.items (made c.args.faces.now) c.loop-face.invariant.made
