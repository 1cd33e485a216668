-- The next ring is as long as the one above it, and its band follows those so far.
use Rattle.std.proofs.Common.{length, ◌++◌, ap, ap₂, sym, ◌∙◌}
use Rattle.scad_solid.specs.Solid.{fans}
use Rattle.scad_solid.specs.Stack.{band, faces_below}
use Rattle.scad_solid.proofs.Collected.{on_ok}
use Rattle.scad_solid.proofs.NextRings.{alike-more, faces_below-more, faces_below-all}
use Rattle.scad_solid.proofs.stacking.push_below.Goals as goal

pub push_band-requires : goal.push_band-requires
push_band-requires c =
    let alike = alike-more c.args.rings.now c.loop-lower.lower-index c.loop-lower.upper.now c.lower-item.result
    c.loop-lower-test.true c.lower-item.is c.loop-lower.invariant.alike in
    ap length c.as_slice.ensures ∙ alike.0 ∙ sym (ap length c.as_slice-in-loop-lower.ensures)

pub loop-lower-preserved : goal.loop-lower-preserved
loop-lower-preserved c = record {
  made = faces_below-more c.args.rings.now c.loop-lower.lower-index c.loop-lower.upper.now c.lower-item.result
      c.loop-lower-test.true c.lower-item.is c.loop-lower.out.items c.push_band.new.out.items _
      c.loop-lower.invariant.made
      (c.in_ok-push_band.ensures ∙ ap₂ (λ a b. c.loop-lower.out.items ++ fans (band a b)) c.as_slice.ensures
      c.as_slice-in-loop-lower.ensures);
  alike = (alike-more c.args.rings.now c.loop-lower.lower-index c.loop-lower.upper.now c.lower-item.result
      c.loop-lower-test.true c.lower-item.is c.loop-lower.invariant.alike).1;
}

pub returns : goal.returns
returns c =
    on_ok c.push_fan.result
    (faces_below-all c.args.rings.now c.loop-lower.lower-index c.loop-lower.upper.now c.loop-lower-test.false
    c.as_slice-2.result.now c.loop-lower.out.items c.push_fan.new.out.items
    (c.args.out.now.items ++ fans (faces_below c.args.top.now c.args.rings.now)) c.loop-lower.invariant.made
    c.as_slice-2.ensures) c.push_fan.ensures
