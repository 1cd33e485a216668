use Rattle.std.proofs.Common.{◌≡◌, ◌+◌, ◌^◌, ◌≤◌, length, drop, min}
use Rattle.std.specs.List.{sum_by}
use Rattle.gcode_text.proofs.layer.points_of.Given as goal

abbrev pub invariant-paths : goal.invariant-paths
invariant-paths l = record {
  small : l.points ≤ 2 ^ 32;
  count : min (l.points + sum_by length (drop l.path-index l.paths)) (2 ^ 32) ≡ min (sum_by length l.paths) (2 ^ 32);
}
