use Rattle.std.proofs.Common.{◌≡◌, ◌++◌, drop, map}
use Rattle.plan_layer.specs.Infill.{backwards}
use Rattle.plan_layer.proofs.infill_paths.push_backwards.Given as goal

abbrev pub invariant-runs : goal.invariant-runs
invariant-runs l =
    l.paths.items ++ map (backwards l.line) (drop l.run-index l.runs) ≡ l.fn.paths.items ++ map (backwards l.line)
    l.runs
