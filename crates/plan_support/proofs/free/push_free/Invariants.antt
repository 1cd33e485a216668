use Rattle.std.proofs.Common.{◌-◌, length}
use Rattle.plan_support.proofs.HoleRests.{FreedUpTo}
use Rattle.plan_support.proofs.free.push_free.Given as goal

abbrev pub invariant-holes : goal.invariant-holes
invariant-holes l = FreedUpTo l.fn.out.items l.run l.holes l.i l.from l.out.items

abbrev pub decreases-holes : goal.decreases-holes
decreases-holes l = length l.holes - l.i
