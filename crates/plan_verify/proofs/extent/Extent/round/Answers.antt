use Rattle.std.proofs.Common.{arith}
use Rattle.std.proofs.lemmas.Int.{ints}
use Rattle.plan_verify.proofs.extent.Extent.round.Goals as goal

pub returns-clause-first : goal.returns-clause-first
returns-clause-first c = record {
  left = omega (arith, ints, c.least.ensures.first);
  right = omega (arith, ints, c.greatest.ensures.first);
  bottom = omega (arith, ints, c.least-2.ensures.first);
  top = omega (arith, ints, c.greatest-2.ensures.first);
}

pub returns-clause-second : goal.returns-clause-second
returns-clause-second c = record {
  left = omega (arith, ints, c.least.ensures.second);
  right = omega (arith, ints, c.greatest.ensures.second);
  bottom = omega (arith, ints, c.least-2.ensures.second);
  top = omega (arith, ints, c.greatest-2.ensures.second);
}
