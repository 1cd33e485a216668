use Rattle.std.proofs.Common.{arith}
use Rattle.std.proofs.lemmas.Int.{ints}
use Rattle.plan_verify.proofs.extent.Extent.reached.Goals as goal

pub returns : goal.returns
returns c = record {
  a = record {
    left = omega (arith, ints, c.below.ensures.first);
    right = omega (arith, ints, c.above.ensures.first);
    bottom = omega (arith, ints, c.below-2.ensures.first);
    top = omega (arith, ints, c.above-2.ensures.first);
  };
  b = record {
    left = omega (arith, ints, c.below.ensures.second);
    right = omega (arith, ints, c.above.ensures.second);
    bottom = omega (arith, ints, c.below-2.ensures.second);
    top = omega (arith, ints, c.above-2.ensures.second);
  };
}
