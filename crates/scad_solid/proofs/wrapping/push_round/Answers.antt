-- The next ring is as long as the one before it, and its band follows those so far.
use Rattle.std.proofs.Common.{length, [], ◌∷◌, ◌++◌, ap, ap₂, sym, ◌∙◌}
use Rattle.scad_solid.specs.Solid.{fans}
use Rattle.scad_solid.specs.Stack.{band}
use Rattle.scad_solid.specs.Wrap.{bands}
use Rattle.scad_solid.proofs.Collected.{on_ok}
use Rattle.scad_solid.proofs.NextRings.{alike-more, bands-more, bands-all}
use Rattle.scad_solid.proofs.wrapping.push_round.Goals as goal

pub push_band-requires : goal.push_band-requires
push_band-requires c =
    let alike = alike-more c.args.rings.now c.loop-lower.lower-index c.loop-lower.upper.now c.lower-item.result
    c.loop-lower-test.true c.lower-item.is c.loop-lower.invariant.alike in
    ap length c.as_slice.ensures ∙ alike.0 ∙ sym (ap length c.as_slice-in-loop-lower.ensures)

pub loop-lower-preserved : goal.loop-lower-preserved
loop-lower-preserved c =
    let alike = alike-more c.args.rings.now c.loop-lower.lower-index c.loop-lower.upper.now c.lower-item.result
    c.loop-lower-test.true c.lower-item.is c.loop-lower.invariant.alike in
    record {
      made = bands-more c.args.rings.now c.loop-lower.lower-index c.loop-lower.upper.now c.lower-item.result
          c.loop-lower-test.true c.lower-item.is c.args.first.now c.loop-lower.out.items c.push_band.new.out.items _
          c.loop-lower.invariant.made
          (c.in_ok-push_band.ensures ∙ ap₂ (λ a b. c.loop-lower.out.items ++ fans (band a b)) c.as_slice.ensures
          c.as_slice-in-loop-lower.ensures);
      alike = alike.1;
      same = sym alike.0 ∙ c.loop-lower.invariant.same;
    }

pub returns : goal.returns
returns c =
    on_ok c.push_band-2.result
    (bands-all c.args.rings.now c.loop-lower.lower-index c.loop-lower.upper.now c.loop-lower-test.false
    c.as_slice-2.result.now c.as_slice-3.result.now c.args.first.now c.loop-lower.out.items
    c.push_band-2.new.out.items
    (c.args.out.now.items ++ fans (bands c.args.first.now (c.args.rings.now ++ c.args.first.now ∷ [])))
    c.loop-lower.invariant.made c.as_slice-2.ensures c.as_slice-3.ensures) c.push_band-2.ensures
