use Rattle.slice_border.proofs.OneOutlines.{made_are_one}
use Rattle.slice_border.proofs.laws.made_are_one.Goals as goal

pub returns : goal.returns
returns c = made_are_one
