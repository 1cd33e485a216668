-- The strand before the place is written.
use Rattle.slice_sweep.proofs.Weakening.{weakened_by}
use Rattle.slice_sweep.proofs.replace.weaken.Goals as goal

pub returns-then-place-gt0 : goal.returns-then-place-gt0
returns-then-place-gt0 c =
    let e = c.index_mut.ensures.value in
    weakened_by c.args.strands.now.items c.args.place c.index_mut.result.now c.if-place-gt0.true c.requires e
