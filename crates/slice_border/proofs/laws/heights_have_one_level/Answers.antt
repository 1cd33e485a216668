use Rattle.slice_border.proofs.Ends.{heights_have_one_level}
use Rattle.slice_border.proofs.laws.heights_have_one_level.Goals as goal

pub returns : goal.returns
returns c = heights_have_one_level
