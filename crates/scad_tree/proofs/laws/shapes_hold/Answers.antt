use Rattle.scad_tree.proofs.Numbering.{numbering_holds}
use Rattle.scad_tree.proofs.laws.shapes_hold.Goals as goal

pub returns : goal.returns
returns c = numbering_holds
