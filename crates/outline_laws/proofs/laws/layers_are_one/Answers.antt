use Rattle.outline_laws.proofs.OneLayer.{layers_have_one_outlines}
use Rattle.outline_laws.proofs.laws.layers_are_one.Goals as goal

pub returns : goal.returns
returns c = layers_have_one_outlines
