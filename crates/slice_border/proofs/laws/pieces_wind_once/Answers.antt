use Rattle.slice_border.proofs.Walk.{pieces_wind}
use Rattle.slice_border.proofs.laws.pieces_wind_once.Goals as goal

pub returns : goal.returns
returns c = pieces_wind
