use Rattle.std.proofs.Common.{◌≤◌, length}
use Rattle.plan_support.proofs.LineWork.{AboveFrom}
use Rattle.plan_support.proofs.line_work.work_line.Given as goal

abbrev pub invariant-layers : goal.invariant-layers
invariant-layers l = record {
  within : l.n ≤ length l.layers;
  above : AboveFrom l.layers l.y l.want l.n l.above.items l.count l.covers;
}

abbrev pub decreases-layers : goal.decreases-layers
decreases-layers l = l.n
