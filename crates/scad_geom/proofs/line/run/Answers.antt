-- The sizes of what is handed on.
use Rattle.std.proofs.Common.{arith}
use Rattle.scad_geom.proofs.Casts.{sizes}
use Rattle.scad_geom.proofs.line.run.Goals as goal

pub returns-clause-size : goal.returns-clause-size
returns-clause-size c =
    let low = c.low.ensures.within c.requires in
    let high = c.high.ensures.within c.requires in
    omega (arith, sizes)
