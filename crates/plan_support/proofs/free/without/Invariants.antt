use Rattle.plan_support.proofs.HoleRests.{WithoutUpTo}
use Rattle.plan_support.proofs.free.without.Given as goal

abbrev pub invariant-runs : goal.invariant-runs
invariant-runs l = WithoutUpTo l.runs l.holes l.run-index l.next l.out.items
