-- The next quad follows those so far.
use Rattle.std.proofs.Common.{◌++◌}
use Rattle.scad_solid.specs.Solid.{fans}
use Rattle.scad_solid.specs.Stack.{band}
use Rattle.scad_solid.proofs.BandSteps.{quads-all, quads-more}
use Rattle.scad_solid.proofs.Collected.{on_ok, origin}
use Rattle.scad_solid.proofs.stacking.push_band.Goals as goal

pub loop-j-preserved : goal.loop-j-preserved
loop-j-preserved c =
    quads-more origin c.args.upper.now c.args.lower.now c.requires c.loop-j.j c.loop-j.a c.loop-j.b c.loop-j-test.true
    c.loop-j.out.items c.push_quad.new.out.items
    (c.args.out.now.items ++ fans (band c.args.upper.now c.args.lower.now)) c.loop-j.invariant
    c.in_ok-push_quad.ensures

pub returns : goal.returns
returns c =
    on_ok c.push_quad-2.result
    (quads-all origin c.args.upper.now c.args.lower.now c.requires c.loop-j.j c.loop-j.a c.loop-j.b
    c.if-is_empty.ensures c.loop-j-test.false c.loop-j.out.items c.push_quad-2.new.out.items
    (c.args.out.now.items ++ fans (band c.args.upper.now c.args.lower.now)) c.loop-j.invariant)
    c.push_quad-2.ensures
