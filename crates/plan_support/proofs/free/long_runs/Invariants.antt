use Rattle.std.proofs.Common.{◌≡◌, take}
use Rattle.plan_support.specs.Free.{at_least}
use Rattle.plan_support.proofs.free.long_runs.Given as goal

abbrev pub invariant-runs : goal.invariant-runs
invariant-runs l = l.out.items ≡ at_least l.least (take l.run-index l.runs)
