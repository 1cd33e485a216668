-- The sizes of what is handed on.
use Rattle.std.proofs.Common.{arith}
use Rattle.scad_geom.proofs.Casts.{sizes}
use Rattle.scad_geom.proofs.line.starts_by.Goals as goal

pub times-requires-clause-left : goal.times-requires-clause-left
times-requires-clause-left c =
    let within = c.low.ensures.within c.requires.edge in
    omega (arith, sizes)

pub times-requires-clause-right : goal.times-requires-clause-right
times-requires-clause-right c = omega (arith, sizes)
