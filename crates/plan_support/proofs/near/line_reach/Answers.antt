-- The factors are small, and the product comes out as it is.
use Rattle.std.proofs.Common.{arith, rules}
use Rattle.std.proofs.lemmas.Int.{ints}
use Rattle.scad_geom.proofs.Casts.{casts, sizes}
use Rattle.plan_support.proofs.near.line_reach.Goals as goal

pub times-requires-clause-left : goal.times-requires-clause-left
times-requires-clause-left c = omega (arith, sizes)

pub times-requires-clause-right : goal.times-requires-clause-right
times-requires-clause-right c = omega (arith, ints, sizes)

pub plus-requires : goal.plus-requires
plus-requires c = record { fits = omega (arith, ints, sizes) }

pub returns-clause-value : goal.returns-clause-value
returns-clause-value c = search (rules, casts)

pub returns-clause-size : goal.returns-clause-size
returns-clause-size c = omega (arith, sizes)
