use Rattle.plan_support.proofs.RunUnion.{UnitedUpTo}
use Rattle.plan_support.proofs.union.united.Given as goal

abbrev pub invariant-runs : goal.invariant-runs
invariant-runs l = UnitedUpTo l.run-items l.run-index l.out.items
