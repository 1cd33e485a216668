use Rattle.slice_border.proofs.BalanceLevels.{pieces_are_balanced}
use Rattle.slice_border.proofs.laws.borders_are_balanced.Goals as goal

pub returns : goal.returns
returns c = pieces_are_balanced
