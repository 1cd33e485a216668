-- The breadth of what was meant, and the sizes of what is handed on.
use Rattle.std.proofs.Common.{rules, arith}
use Rattle.scad_geom.proofs.Casts.{casts, sizes}
use Rattle.scad_ring.proofs.meeting.reach.Goals as goal

pub returns-clause-value : goal.returns-clause-value
returns-clause-value c = search (rules, casts)

pub minus-requires : goal.minus-requires
minus-requires c = record { fits = omega (arith, sizes) }

pub minus-requires-2 : goal.minus-requires-2
minus-requires-2 c = record { fits = omega (arith, sizes) }

pub minus-requires-3 : goal.minus-requires-3
minus-requires-3 c = record { fits = omega (arith, sizes) }

pub breadth-requires-clause-s : goal.breadth-requires-clause-s
breadth-requires-clause-s c = omega (arith, sizes)

pub breadth-requires-clause-t : goal.breadth-requires-clause-t
breadth-requires-clause-t c = omega (arith, sizes)

pub breadth-requires-clause-x : goal.breadth-requires-clause-x
breadth-requires-clause-x c = omega (arith, sizes)

pub breadth-requires-clause-y : goal.breadth-requires-clause-y
breadth-requires-clause-y c = omega (arith, sizes)

pub returns-clause-size : goal.returns-clause-size
returns-clause-size c = omega (arith, sizes)
