-- The product of what was meant, and the sizes of what is handed on.
use Rattle.std.proofs.Common.{rules, arith}
use Rattle.scad_geom.proofs.Casts.{casts, sizes}
use Rattle.scad_ring.proofs.meeting.cross.Goals as goal

pub returns : goal.returns
returns c = search (rules, casts)

pub minus-requires : goal.minus-requires
minus-requires c = record { fits = omega (arith, sizes) }

pub times-requires-2-clause-left : goal.times-requires-2-clause-left
times-requires-2-clause-left c = omega (arith, sizes)

pub times-requires-2-clause-right : goal.times-requires-2-clause-right
times-requires-2-clause-right c = omega (arith, sizes)
