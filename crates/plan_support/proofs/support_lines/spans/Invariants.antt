use Rattle.std.proofs.Common.{pos, ◌+ℤ◌, ◌-ℤ◌}
use lib.Signed.{◌≤ℤ◌}
use Rattle.std.specs.Prelude.{unsigned_abs}
use Rattle.std.specs.Int.{int_max}
use Rattle.scad_geom.specs.Limits.{coordinate_limit}
use Rattle.plan_infill.specs.Multiple.{IsMultiple}
use Rattle.plan_support.proofs.LineRows.{SpannedBelow}
use Rattle.plan_support.proofs.support_lines.spans.Given as goal

abbrev pub invariant-lines : goal.invariant-lines
invariant-lines l = record {
  spanned : SpannedBelow l.outlines l.spacing l.y l.rows;
  multiple : IsMultiple l.spacing l.y;
  from : (pos 0 -ℤ pos coordinate_limit) ≤ℤ l.y;
}

abbrev pub decreases-lines : goal.decreases-lines
decreases-lines l = unsigned_abs (int_max (pos 0) (l.high +ℤ pos 1 -ℤ l.y))
