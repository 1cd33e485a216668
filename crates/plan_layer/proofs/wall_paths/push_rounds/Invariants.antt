use Rattle.std.proofs.Common.{◌≡◌, ◌++◌, drop, map}
use Rattle.plan_layer.specs.Plan.{round}
use Rattle.plan_layer.proofs.wall_paths.push_rounds.Given as goal

abbrev pub invariant-loops : goal.invariant-loops
invariant-loops l = l.paths.items ++ map round (drop l.outline-index l.loops) ≡ l.fn.paths.items ++ map round l.loops
