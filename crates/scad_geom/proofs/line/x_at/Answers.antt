-- The sizes of what is handed on.
use Rattle.std.proofs.Common.{arith}
use Rattle.scad_geom.proofs.Casts.{sizes}
use Rattle.scad_geom.proofs.line.x_at.Goals as goal

pub times-slant-requires-clause-left : goal.times-slant-requires-clause-left
times-slant-requires-clause-left c = omega (arith, sizes)

pub times-slant-requires-clause-right : goal.times-slant-requires-clause-right
times-slant-requires-clause-right c = omega (arith, sizes)

pub times-start-requires-clause-left : goal.times-start-requires-clause-left
times-start-requires-clause-left c = omega (arith, sizes)

pub times-start-requires-clause-right : goal.times-start-requires-clause-right
times-start-requires-clause-right c = omega (arith, sizes)

pub plus-requires : goal.plus-requires
plus-requires c = record { fits = omega (arith, sizes) }

pub returns-clause-size : goal.returns-clause-size
returns-clause-size c = omega (arith, sizes)
