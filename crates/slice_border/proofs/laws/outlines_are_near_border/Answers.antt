use Rattle.slice_border.proofs.NearBorder.{outlines_are_near_border}
use Rattle.slice_border.proofs.laws.outlines_are_near_border.Goals as goal

pub returns : goal.returns
returns c = outlines_are_near_border
