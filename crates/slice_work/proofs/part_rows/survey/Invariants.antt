use Rattle.std.proofs.Common.{◌-◌, ◌≤◌, All}
use Rattle.plan_support.specs.Rows.{AreRows}
use Rattle.slice_work.specs.Part.{Part}
use Rattle.slice_work.specs.Survey.{AreSurveyed}
use Rattle.slice_work.proofs.part_rows.survey.Given as goal

abbrev pub invariant-rounds : goal.invariant-rounds
invariant-rounds g l = record {
  within : l.first ≤ l.count;
  rows : (part : Part) → g.W.LayerWork.draws l.work part → AreSurveyed part l.spacing l.first l.all.items;
  each : All AreRows l.all.items;
}

abbrev pub decreases-rounds : goal.decreases-rounds
decreases-rounds g l = l.count - l.first
