use Rattle.slice_loops.proofs.Unique.{loops_are_one}
use Rattle.slice_loops.proofs.laws.loops_are_one.Goals as goal

pub returns : goal.returns
returns c = loops_are_one
