-- The coordinates of the corners.
use Rattle.std.proofs.Common.{refl, arith}
use Rattle.scad_ring.proofs.Passed.{same, same_sum, same_difference}
use Rattle.scad_ring.proofs.octagon.Four.round.Goals as goal
use mir.Syntax.{w32}

pub returns-clause-low : goal.returns-clause-low
returns-clause-low c =
    let within = c.requires.p in
    rw (same w32 c.args.p.x (omega arith), same_difference w32 c.args.p.y c.args.c (omega arith)) refl

pub returns-clause-right : goal.returns-clause-right
returns-clause-right c =
    let within = c.requires.p in
    rw (same_sum w32 c.args.p.x c.args.c (omega arith), same w32 c.args.p.y (omega arith)) refl

pub returns-clause-high : goal.returns-clause-high
returns-clause-high c =
    let within = c.requires.p in
    rw (same w32 c.args.p.x (omega arith), same_sum w32 c.args.p.y c.args.c (omega arith)) refl

pub returns-clause-left : goal.returns-clause-left
returns-clause-left c =
    let within = c.requires.p in
    rw (same_difference w32 c.args.p.x c.args.c (omega arith), same w32 c.args.p.y (omega arith)) refl
