use Rattle.slice_loops.proofs.Lengths.{sides_have_lengths}
use Rattle.slice_loops.proofs.laws.sides_have_lengths.Goals as goal

pub returns : goal.returns
returns c = sides_have_lengths
