use Rattle.std.proofs.Common.{◌≡◌, ◌++◌, drop, map}
use Rattle.plan_layer.specs.Infill.{forwards}
use Rattle.plan_layer.proofs.infill_paths.push_forwards.Given as goal

abbrev pub invariant-runs : goal.invariant-runs
invariant-runs l =
    l.paths.items ++ map (forwards l.line) (drop l.run-index l.runs) ≡ l.fn.paths.items ++ map (forwards l.line) l.runs
