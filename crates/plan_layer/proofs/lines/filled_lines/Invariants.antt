use Rattle.std.proofs.Common.{pos, ◌+ℤ◌, ◌-ℤ◌}
use lib.Signed.{◌≤ℤ◌}
use Rattle.std.specs.Prelude.{unsigned_abs}
use Rattle.std.specs.Int.{int_max}
use Rattle.scad_geom.specs.Limits.{point_limit}
use Rattle.plan_infill.specs.Multiple.{IsMultiple}
use Rattle.plan_layer.proofs.LineRuns.{FilledBefore}
use Rattle.plan_layer.proofs.lines.filled_lines.Given as goal

abbrev pub invariant-lines : goal.invariant-lines
invariant-lines l = record {
  filled : FilledBefore l.outlines l.layer l.settings l.at l.lines.items;
  multiple : IsMultiple l.settings.infill_spacing l.at;
  from : (pos 0 -ℤ pos point_limit) ≤ℤ l.at;
}

abbrev pub decreases-lines : goal.decreases-lines
decreases-lines l = unsigned_abs (int_max (pos 0) (l.high +ℤ pos 1 -ℤ l.at))
