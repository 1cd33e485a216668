use Rattle.std.proofs.Common.{◌≡◌, ◌++◌, drop}
use Rattle.std.specs.List.{flat_map}
use Rattle.plan_layer.specs.Moves.{moves}
use Rattle.slice_work.proofs.hatches.all_moves.Given as goal

abbrev pub invariant-paths : goal.invariant-paths
invariant-paths l = l.edges.items ++ flat_map moves (drop l.path-index l.paths)
    ≡ flat_map moves l.paths
