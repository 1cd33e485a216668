use Rattle.slice_loops.proofs.Unique.{outlines_are_one}
use Rattle.slice_loops.proofs.laws.outlines_are_one.Goals as goal

pub returns : goal.returns
returns c = outlines_are_one
