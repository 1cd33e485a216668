use Rattle.slice_border.proofs.Cover.{stretches_are_covered}
use Rattle.slice_border.proofs.laws.stretches_are_covered.Goals as goal

pub returns : goal.returns
returns c = stretches_are_covered
