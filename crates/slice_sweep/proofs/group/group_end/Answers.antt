-- One more strand at the place.
use Rattle.std.proofs.Common.{arith}
use Rattle.slice_sweep.proofs.Groups.{together_more}
use Rattle.slice_sweep.proofs.group.group_end.Goals as goal

pub group-preserved : goal.group-preserved
group-preserved c =
    let i = c.group.invariant in
    let some = i.some in
    let there = c.group-test.true in
    record {
      some = omega (arith, some);
      within = omega (arith, there);
      together = together_more c.args.step.now.edges.now c.args.step.now.lower.now c.args.strands.now c.args.from
          c.group.end c.index-strands-end.result c.index-strands-end-in-group.result c.are_together.result i.together
          some there
          c.index-strands-end.is c.index-strands-end-in-group.is c.are_together.ensures
          c.if-are_together.true;
    }
