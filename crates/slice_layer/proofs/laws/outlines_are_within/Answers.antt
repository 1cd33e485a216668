use Rattle.slice_layer.proofs.Within.{outlines_are_within}
use Rattle.slice_layer.proofs.laws.outlines_are_within.Goals as goal

pub returns : goal.returns
returns c = outlines_are_within
