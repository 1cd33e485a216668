-- The coordinates of the moved point.
use Rattle.std.proofs.Common.{refl, arith}
use Rattle.scad_ring.proofs.Passed.{same_sum}
use Rattle.scad_ring.proofs.octagon.right_above.Goals as goal
use mir.Syntax.{w32}

pub returns : goal.returns
returns c =
    let within = c.requires.p in
    rw (same_sum w32 c.args.p.x c.args.x (omega arith), same_sum w32 c.args.p.y c.args.y (omega arith)) refl
