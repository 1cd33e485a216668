-- The points of the block lie inside as its box does.
use Rattle.std.proofs.Common.{◌≡◌, ◌%◌, arith}
use Rattle.scad_hull.proofs.PointBlocks.{inner_points}
use Rattle.scad_hull.proofs.cloud.inner_end.Goals as goal

pub returns-clause-inner : goal.returns-clause-inner
returns-clause-inner c =
    let start : c.args.i % 32 ≡ 0 = omega arith in
    inner_points c.args.cloud.now.points.now c.args.cloud.now.blocks.now c.args.cloud.now.blocked c.args.normal.now
    c.args.a c.args.i c.block_end.result _ start c.if-not-is_inner.ensures c.block_end.ensures
