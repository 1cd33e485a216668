use Rattle.print_laws.proofs.Extrusion.{sides_are_extruded}
use Rattle.print_laws.proofs.laws.sides_are_extruded.Goals as goal

pub returns : goal.returns
returns c = sides_are_extruded
