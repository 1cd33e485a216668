use Rattle.std.proofs.Common.{arith}
use Rattle.std.proofs.lemmas.Int.{ints}
use Rattle.plan_verify.proofs.extent.Extent.around.Goals as goal

pub returns : goal.returns
returns c = record {
  a = record {
    left = omega (arith, ints, c.least.ensures.first);
    right = omega (arith, ints, c.greatest.ensures.first);
    bottom = omega (arith, ints, c.least-2.ensures.first);
    top = omega (arith, ints, c.greatest-2.ensures.first);
  };
  b = record {
    left = omega (arith, ints, c.least.ensures.second);
    right = omega (arith, ints, c.greatest.ensures.second);
    bottom = omega (arith, ints, c.least-2.ensures.second);
    top = omega (arith, ints, c.greatest-2.ensures.second);
  };
}
