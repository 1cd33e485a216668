-- The sum is small, and compared as it is.
use Rattle.std.proofs.Common.{arith, rules}
use Rattle.scad_geom.proofs.Casts.{casts, sizes}
use Rattle.plan_support.proofs.near.ends_from.Goals as goal

pub plus-requires : goal.plus-requires
plus-requires c = record { fits = omega (arith, sizes) }

pub returns : goal.returns
returns c = search (rules, casts)
