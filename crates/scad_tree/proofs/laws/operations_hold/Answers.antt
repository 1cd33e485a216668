use Rattle.scad_tree.proofs.SetLaws.{operations_hold}
use Rattle.scad_tree.proofs.laws.operations_hold.Goals as goal

pub returns : goal.returns
returns c = operations_hold
