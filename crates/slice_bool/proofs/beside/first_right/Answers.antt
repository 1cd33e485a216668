-- One more is passed while the next doesn't lie to the right of the stop.
use Rattle.std.proofs.Common.{ℕ, sym, ◌∙◌, arith, List}
use Rattle.scad_geom.specs.Point.{Point}
use Rattle.slice_pieces.specs.Spots.{point_of}
use Rattle.slice_bool.proofs.Along.{passed_more}
use Rattle.slice_bool.proofs.beside.first_right.Goals as goal

pub bundles-init : goal.bundles-init
bundles-init c = record {
  there = c.requires.there;
  after = omega arith;
  passed = λ j d a b. absurd (omega arith);
}

pub bundles-preserved : goal.bundles-preserved
bundles-preserved c =
    let es = c.args.edges.now in
    let p : Point = point_of c.args.s.now.spot in
    let bs : List (List ℕ) = c.args.bundles.now in
    let b : List ℕ = c.index-bundles-k.result in
    record {
      there = omega (arith, c.bundles-test.true);
      after = omega (arith, c.bundles.invariant.after);
      passed = passed_more es p bs c.args.from c.bundles.k b c.index-bundles-k.is c.bundles-test.true
          (sym c.is_right_of.ensures ∙ c.if-not-is_right_of.true) c.bundles.invariant.passed;
    }
