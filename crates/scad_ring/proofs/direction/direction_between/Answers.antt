-- The direction by the way that was meant.
use Rattle.std.proofs.Common.{arith}
use Rattle.scad_ring.proofs.Passed.{same_difference}
use Rattle.scad_ring.proofs.direction.direction_between.Goals as goal
use mir.Syntax.{w32}

pub returns : goal.returns
returns c =
    let from = c.requires.p in
    let to = c.requires.r in
    rw (
      same_difference w32 c.args.r.x c.args.p.x (omega arith),
      same_difference w32 c.args.r.y c.args.p.y (omega arith),
    ) at c.by_steps.ensures
