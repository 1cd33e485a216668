-- The sizes of what is handed on, and what comes out.
use Rattle.std.proofs.Common.{arith, rules}
use Rattle.scad_geom.proofs.Casts.{casts, sizes}
use Rattle.plan_infill.proofs.near_steps.around.Goals as goal

pub lesser-requires-clause-a : goal.lesser-requires-clause-a
lesser-requires-clause-a c = omega (arith, sizes)

pub lesser-requires-clause-b : goal.lesser-requires-clause-b
lesser-requires-clause-b c = omega (arith, sizes)

pub minus-requires : goal.minus-requires
minus-requires c = record { fits = omega (arith, sizes) }

pub plus-requires : goal.plus-requires
plus-requires c = record { fits = omega (arith, sizes) }

pub minus-requires-2 : goal.minus-requires-2
minus-requires-2 c = record { fits = omega (arith, sizes) }

pub greater-requires-clause-a : goal.greater-requires-clause-a
greater-requires-clause-a c = omega (arith, sizes)

pub greater-requires-clause-b : goal.greater-requires-clause-b
greater-requires-clause-b c = omega (arith, sizes)

pub plus-requires-2 : goal.plus-requires-2
plus-requires-2 c = record { fits = omega (arith, sizes) }

pub minus-requires-3 : goal.minus-requires-3
minus-requires-3 c = record { fits = omega (arith, sizes) }

pub returns-clause-from : goal.returns-clause-from
returns-clause-from c = search (rules, casts)

pub returns-clause-until : goal.returns-clause-until
returns-clause-until c = search (rules, casts)
