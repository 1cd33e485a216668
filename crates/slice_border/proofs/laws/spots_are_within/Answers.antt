use Rattle.slice_border.proofs.Within.{spots_are_within}
use Rattle.slice_border.proofs.laws.spots_are_within.Goals as goal

pub returns : goal.returns
returns c = spots_are_within
