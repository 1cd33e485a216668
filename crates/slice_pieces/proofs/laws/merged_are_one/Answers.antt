use Rattle.slice_pieces.proofs.OneMerging.{merged_are_one}
use Rattle.slice_pieces.proofs.laws.merged_are_one.Goals as goal

pub returns : goal.returns
returns c = merged_are_one
