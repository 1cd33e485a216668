use Rattle.outline_laws.proofs.OneOutlines.{outlines_are_one, alike_have_one_outlines}
use Rattle.outline_laws.proofs.laws.outlines_are_one.Goals as goal

pub returns : goal.returns
returns c = record { one = outlines_are_one; alike = alike_have_one_outlines }
