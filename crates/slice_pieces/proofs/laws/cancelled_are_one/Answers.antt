use Rattle.slice_pieces.proofs.OneRest.{cancelled_are_one}
use Rattle.slice_pieces.proofs.laws.cancelled_are_one.Goals as goal

pub returns : goal.returns
returns c = cancelled_are_one
