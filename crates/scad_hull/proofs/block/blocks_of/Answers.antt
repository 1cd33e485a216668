-- One block more, and all of them.
use Rattle.std.proofs.Common.{◌≤◌, length, arith}
use Rattle.scad_hull.proofs.PointBlocks.{all_blocks, next_start, one_more, still_small}
use Rattle.scad_hull.proofs.block.blocks_of.Goals as goal

pub starts-preserved : goal.starts-preserved
starts-preserved c = record {
  at = next_start c.args.points.now c.starts.blocks.items c.push.new.self.items c.block_from.result c.starts.start
      c.block_end-start.result c.in_ok-push.ensures.items c.starts.invariant.at c.starts-test.true
      c.block_end-start.ensures;
  small = still_small c.starts.blocks.items c.push.new.self.items c.block_from.result c.in_ok-push.ensures.items
      c.starts.invariant.small c.block_from.ensures.small;
  within = one_more c.args.points.now c.starts.blocks.items c.push.new.self.items c.block_from.result c.starts.start
      c.block_end-start.result c.in_ok-push.ensures.items c.starts.invariant.at c.starts-test.true
      c.block_end-start.ensures
      (λ k d h l. c.block_from.ensures.within k d h (omega arith) (omega arith)) c.starts.invariant.within;
}

pub returns : goal.returns
returns c =
    let past : length c.args.points.now ≤ c.starts.start = omega arith in
    all_blocks c.args.points.now c.starts.blocks.items c.starts.start c.starts.invariant.at past
    c.starts.invariant.small c.starts.invariant.within
