-- The next triangle's sides follow those so far.
use Rattle.std.proofs.Common.{◌+◌, ◌++◌, drop, refl, ap, sym}
use Rattle.scad_solid.specs.Surface.{sides}
use Rattle.scad_solid.proofs.Collected.{collected-all, collected-more, origin}
use Rattle.scad_solid.proofs.closedness.sides.Goals as goal

pub loop-triangle-preserved : goal.loop-triangle-preserved
loop-triangle-preserved c =
    collected-more sides c.args.triangles.now c.loop-triangle.triangle-index
    (record { a = origin; b = origin; c = origin }) c.loop-triangle-test.true c.sides.result c.loop-triangle.sides.items
    c.extend_from_slice.new.self.items (sides c.args.triangles.now)
    (ap (λ ss. ss ++ sides (drop (c.loop-triangle.triangle-index + 1) c.args.triangles.now)) (sym c.sides.ensures))
    c.loop-triangle.invariant c.in_ok-extend_from_slice.ensures.items

pub returns : goal.returns
returns c =
    collected-all sides c.args.triangles.now c.loop-triangle.triangle-index c.loop-triangle-test.false refl
    c.loop-triangle.sides.items (sides c.args.triangles.now) c.loop-triangle.invariant
