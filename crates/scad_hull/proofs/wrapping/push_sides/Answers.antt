-- A ring without corners has no sides.
use Rattle.scad_hull.proofs.MoreFaces.{no_sides}
use Rattle.scad_hull.proofs.wrapping.push_sides.Goals as goal

pub returns-in_default : goal.returns-in_default
returns-in_default c = no_sides c.args.sides.now.keys c.args.ring.now c.in_default.len_below
