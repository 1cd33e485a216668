use Rattle.scad_slice.proofs.SomeParts.{parts_are_there}
use Rattle.scad_slice.proofs.laws.parts_are_there.Goals as goal

pub returns : goal.returns
returns c = parts_are_there
