-- The next number's point follows those so far.
use Rattle.std.proofs.Common.{length, refl}
use Rattle.scad_solid.specs.Solid.{corners}
use Rattle.scad_solid.proofs.Collected.{collected-all, collected-more}
use Rattle.scad_solid.proofs.Faces.{names_points-at}
use Rattle.scad_solid.proofs.fans.corners.Goals as goal

pub loop-i-preserved : goal.loop-i-preserved
loop-i-preserved c =
    collected-more (corners c.args.points.now) c.args.face.now c.loop-i.i-index 0 c.loop-i-test.true _
    c.loop-i.corners.items c.push.new.self.items (corners c.args.points.now c.args.face.now) refl c.loop-i.invariant
    c.in_ok-push.ensures.items

pub returns : goal.returns
returns c =
    collected-all (corners c.args.points.now) c.args.face.now c.loop-i.i-index c.loop-i-test.false refl
    c.loop-i.corners.items (corners c.args.points.now c.args.face.now) c.loop-i.invariant

pub bounds-points-i : goal.bounds-points-i
bounds-points-i c =
    names_points-at (length c.args.points.now) c.args.face.now c.loop-i.i-index c.requires c.loop-i-test.true
