use Rattle.std.proofs.Common.{◌≡◌, ◌++◌, map, take}
use Rattle.plan_support.specs.Supports.{rightwards}
use Rattle.plan_support.proofs.support.push_rightwards.Given as goal

abbrev pub invariant-runs : goal.invariant-runs
invariant-runs l = l.paths.items ≡ l.fn.paths.items ++ map (rightwards l.y) (take l.run-index l.runs)
