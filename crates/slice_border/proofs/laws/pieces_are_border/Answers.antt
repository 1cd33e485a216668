use Rattle.slice_border.proofs.BorderPoints.{pieces_are_border}
use Rattle.slice_border.proofs.laws.pieces_are_border.Goals as goal

pub returns : goal.returns
returns c = pieces_are_border
