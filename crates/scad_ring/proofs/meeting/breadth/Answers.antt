-- The breadth by the octant of the way, and the sizes of what is handed on.
use Rattle.std.proofs.Common.{rules, arith}
use Rattle.scad_geom.proofs.Casts.{casts, sizes}
use Rattle.scad_ring.specs.Tests.{breadth}
use Rattle.scad_ring.proofs.meeting.breadth.Goals as goal

pub times-requires : goal.times-requires
times-requires c =
    record { left = omega (arith, sizes); right = omega (arith, sizes); fits = omega arith }

pub times-requires-then-y-x : goal.times-requires-then-y-x
times-requires-then-y-x c =
    record { left = omega (arith, sizes); right = omega (arith, sizes); fits = omega arith }

pub times-requires-then-plus-le0 : goal.times-requires-then-plus-le0
times-requires-then-plus-le0 c =
    record { left = omega (arith, sizes); right = omega (arith, sizes); fits = omega arith }

pub times-requires-then-plus-le0-2 : goal.times-requires-then-plus-le0-2
times-requires-then-plus-le0-2 c =
    record { left = omega (arith, sizes); right = omega (arith, sizes); fits = omega arith }

pub times-requires-then-x-ge0 : goal.times-requires-then-x-ge0
times-requires-then-x-ge0 c =
    record { left = omega (arith, sizes); right = omega (arith, sizes); fits = omega arith }

pub times-requires-then-x-ge0-2 : goal.times-requires-then-x-ge0-2
times-requires-then-x-ge0-2 c =
    record { left = omega (arith, sizes); right = omega (arith, sizes); fits = omega arith }

pub times-requires-else-x-ge0 : goal.times-requires-else-x-ge0
times-requires-else-x-ge0 c =
    record { left = omega (arith, sizes); right = omega (arith, sizes); fits = omega arith }

pub times-requires-else-x-ge0-2 : goal.times-requires-else-x-ge0-2
times-requires-else-x-ge0-2 c =
    record { left = omega (arith, sizes); right = omega (arith, sizes); fits = omega arith }

pub plus-requires : goal.plus-requires
plus-requires c = record { fits = omega (arith, sizes) }

pub plus-requires-else-y-x : goal.plus-requires-else-y-x
plus-requires-else-y-x c = record { fits = omega (arith, sizes) }

pub plus-requires-then-x-ge0 : goal.plus-requires-then-x-ge0
plus-requires-then-x-ge0 c = record { fits = omega (arith, sizes) }

pub minus-requires : goal.minus-requires
minus-requires c = record { fits = omega (arith, sizes) }

pub minus-requires-else-x-ge0 : goal.minus-requires-else-x-ge0
minus-requires-else-x-ge0 c = record { fits = omega (arith, sizes) }

pub returns-then-y-x-clause-size : goal.returns-then-y-x-clause-size
returns-then-y-x-clause-size c = omega (arith, sizes)

pub returns-then-plus-le0-clause-size : goal.returns-then-plus-le0-clause-size
returns-then-plus-le0-clause-size c = omega (arith, sizes)

pub returns-then-x-ge0-clause-size : goal.returns-then-x-ge0-clause-size
returns-then-x-ge0-clause-size c = omega (arith, sizes)

pub returns-else-x-ge0-clause-size : goal.returns-else-x-ge0-clause-size
returns-else-x-ge0-clause-size c = omega (arith, sizes)

pub returns-then-y-x-clause-value : goal.returns-then-y-x-clause-value
unfolding breadth
returns-then-y-x-clause-value c = search (rules, casts)

pub returns-then-plus-le0-clause-value : goal.returns-then-plus-le0-clause-value
unfolding breadth
returns-then-plus-le0-clause-value c = search (rules, casts)

pub returns-then-x-ge0-clause-value : goal.returns-then-x-ge0-clause-value
unfolding breadth
returns-then-x-ge0-clause-value c = search (rules, casts)

pub returns-else-x-ge0-clause-value : goal.returns-else-x-ge0-clause-value
unfolding breadth
returns-else-x-ge0-clause-value c = search (rules, casts)
