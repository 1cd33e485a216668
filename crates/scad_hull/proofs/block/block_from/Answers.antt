-- The box grows round one more point.
use Rattle.std.proofs.Common.{◌<◌, length, arith}
use Rattle.scad_hull.proofs.PointBlocks.{more_round}
use Rattle.scad_hull.proofs.block.block_from.Goals as goal

pub points-preserved : goal.points-preserved
points-preserved c =
    let inside : c.points.i < length c.args.points.now = omega arith in
    record {
      small = c.grown-block.ensures.small;
      within = more_round c.args.points.now c.points.block c.grown-block.result c.args.start c.points.i _ inside
          c.grown-block.ensures.block c.grown-block.ensures.p c.points.invariant.within;
    }
