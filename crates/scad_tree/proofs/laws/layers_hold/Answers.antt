use Rattle.scad_tree.proofs.Above.{layers_hold}
use Rattle.scad_tree.proofs.laws.layers_hold.Goals as goal

pub returns : goal.returns
returns c = layers_hold
