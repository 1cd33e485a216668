use Rattle.slice_pieces.proofs.GoingOn.{pieces_go_on}
use Rattle.slice_pieces.proofs.laws.pieces_go_on.Goals as goal

pub returns : goal.returns
returns c = pieces_go_on
