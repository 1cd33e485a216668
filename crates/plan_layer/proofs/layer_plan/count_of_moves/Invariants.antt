use Rattle.std.proofs.Common.{◌≡◌, length, take}
use Rattle.plan_layer.specs.Moves.{all_moves}
use Rattle.plan_layer.proofs.layer_plan.count_of_moves.Given as goal

abbrev pub invariant-paths : goal.invariant-paths
invariant-paths l = l.count ≡ length (all_moves (take l.path-index l.paths))
