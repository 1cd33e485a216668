use Rattle.std.proofs.Common.{◌≡◌, ◌++◌, map, take}
use Rattle.plan_support.specs.Supports.{leftwards}
use Rattle.plan_support.proofs.support.push_leftwards.Given as goal

abbrev pub invariant-runs : goal.invariant-runs
invariant-runs l = l.paths.items ≡ l.fn.paths.items ++ map (leftwards l.y) (take l.run-index l.runs)
