use Rattle.std.proofs.Common.{◌≡◌, ◌++◌, drop, true}
use Rattle.plan_layer.specs.Infill.{infill_paths}
use Rattle.plan_layer.proofs.infill_paths.push_infill.Given as goal

abbrev pub invariant-lines : goal.invariant-lines
invariant-lines l =
    l.paths.items ++ infill_paths l.layer l.upwards (drop l.filled-index l.lines) ≡ l.fn.paths.items ++ infill_paths
    l.layer true l.lines
