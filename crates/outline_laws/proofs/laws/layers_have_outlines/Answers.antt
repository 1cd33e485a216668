use Rattle.outline_laws.proofs.SomeLayer.{layers_have_outlines}
use Rattle.outline_laws.proofs.laws.layers_have_outlines.Goals as goal

pub returns : goal.returns
returns c = layers_have_outlines
