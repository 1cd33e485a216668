use Rattle.std.proofs.Common.{◌≡◌, ◌+◌, drop}
use Rattle.slice_work.specs.Part.{move_count}
use Rattle.slice_work.proofs.sums.moves_of.Given as goal

abbrev pub invariant-paths : goal.invariant-paths
invariant-paths l = l.moves + move_count (drop l.path-index l.paths) ≡ move_count l.paths
