use Rattle.std.proofs.Common.{arith, ◌∙◌}
use Rattle.gcode_text.proofs.Steps.{next_points, no_more_points}
use Rattle.gcode_text.proofs.layer.points_of.Goals as goal

pub paths-preserved : goal.paths-preserved
paths-preserved c = record {
  small = omega arith;
  count = next_points c.paths.points c.min-points.result c.args.paths.now c.paths.path-index c.as_slice.result.now
      c.path-item.result
      (omega arith) (c.as_slice.ensures ∙ c.path-item.is) (c.min-points.ensures) ∙ c.paths.invariant.count;
}

pub returns : goal.returns
returns c =
    let none = no_more_points c.args.paths.now c.paths.path-index (omega arith) in
    omega (arith, none, c.paths.invariant.count, c.paths.invariant.small)
