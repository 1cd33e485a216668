-- One more strand is counted.
use Rattle.std.proofs.Common.{arith}
use Rattle.slice_sweep.proofs.Telling.{none_older, older_more}
use Rattle.slice_sweep.proofs.group.older.Goals as goal

pub strands-init : goal.strands-init
strands-init c = record {
  value = none_older c.args.step.now.edges.now c.args.step.now.lower.now c.args.strands.now c.args.from;
  small = omega arith;
}

pub strands-preserved : goal.strands-preserved
strands-preserved c =
    let es = c.args.step.now.edges.now in
    let l = c.args.step.now.lower.now in
    let most = c.older_one-count.ensures.most in
    let small = c.strands.invariant.small in
    let to = c.requires.to in
    record {
      value = older_more es l c.args.strands.now c.args.from c.strands.i c.strands.count c.older_one-count.result
          c.index-strands-i.result (omega (arith, c.strands.auto)) (omega (arith, c.strands-test.true, to))
          c.index-strands-i.is c.strands.invariant.value c.older_one-count.ensures.value;
      small = omega (arith, most, small);
    }
