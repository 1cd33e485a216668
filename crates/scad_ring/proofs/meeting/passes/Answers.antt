-- The tests of what was meant, and the sizes of what is handed on.
use Rattle.std.proofs.Common.{rules, arith}
use Rattle.scad_geom.proofs.Casts.{casts, sizes}
use Rattle.scad_ring.proofs.meeting.passes.Goals as goal

pub plus-requires : goal.plus-requires
plus-requires c = record { fits = omega (arith, sizes) }

pub plus-requires-2 : goal.plus-requires-2
plus-requires-2 c = record { fits = omega (arith, sizes) }

pub minus-requires : goal.minus-requires
minus-requires c = record { fits = omega (arith, sizes) }

pub minus-requires-2 : goal.minus-requires-2
minus-requires-2 c = record { fits = omega (arith, sizes) }

pub overlaps-is_rising-requires : goal.overlaps-is_rising-requires
overlaps-is_rising-requires c = omega (arith, sizes)

pub overlaps-is_falling-requires : goal.overlaps-is_falling-requires
overlaps-is_falling-requires c = omega (arith, sizes)

pub is_size-is_on_line-requires : goal.is_size-is_on_line-requires
is_size-is_on_line-requires c = omega (arith, sizes)

pub returns-else-is_across : goal.returns-else-is_across
returns-else-is_across c = search (rules, casts)

pub returns-else-is_upwards : goal.returns-else-is_upwards
returns-else-is_upwards c = search (rules, casts)

pub returns-else-is_rising : goal.returns-else-is_rising
returns-else-is_rising c = search (rules, casts)

pub returns-else-is_falling : goal.returns-else-is_falling
returns-else-is_falling c = search (rules, casts)

pub returns-then-is_falling : goal.returns-then-is_falling
returns-then-is_falling c = search (rules, casts)
