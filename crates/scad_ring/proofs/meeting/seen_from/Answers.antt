-- The numbers that were meant, and their sizes.
use Rattle.std.proofs.Common.{rules, arith}
use Rattle.scad_geom.proofs.Casts.{casts, sizes}
use Rattle.scad_ring.proofs.meeting.seen_from.Goals as goal

pub returns-clause-x : goal.returns-clause-x
returns-clause-x c = search (rules, casts)

pub returns-clause-y : goal.returns-clause-y
returns-clause-y c = search (rules, casts)

pub returns-clause-x_size : goal.returns-clause-x_size
returns-clause-x_size c = omega (arith, sizes)

pub returns-clause-y_size : goal.returns-clause-y_size
returns-clause-y_size c = omega (arith, sizes)

pub past-requires : goal.past-requires
past-requires c = omega (arith, sizes)

pub past-requires-2 : goal.past-requires-2
past-requires-2 c = omega (arith, sizes)
