use Rattle.slice_border.proofs.PieceNames.{pieces_are_named}
use Rattle.slice_border.proofs.laws.pieces_are_named.Goals as goal

pub returns : goal.returns
returns c = pieces_are_named
