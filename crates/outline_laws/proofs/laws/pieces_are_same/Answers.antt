use Rattle.outline_laws.proofs.Pieces.{pieces_are_same}
use Rattle.outline_laws.proofs.laws.pieces_are_same.Goals as goal

pub returns : goal.returns
returns c = pieces_are_same
