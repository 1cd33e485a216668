use Rattle.std.proofs.Common.{◌+◌, All}
use Rattle.plan_support.specs.Rows.{AreRows}
use Rattle.slice_work.specs.Part.{Part}
use Rattle.slice_work.specs.Shares.{AreDrawnOf}
use Rattle.slice_work.specs.Survey.{AreSurveyed}
use Rattle.slice_work.proofs.part_rows.push_round.Given as goal

abbrev pub invariant-layers : goal.invariant-layers
invariant-layers l = record {
  rows : (part : Part) → AreDrawnOf part l.round.done.items
      → AreSurveyed part l.spacing l.round.first l.fn.all.items
      → AreSurveyed part l.spacing (l.round.first + l.n) l.all.items;
  each : All AreRows l.all.items;
}
