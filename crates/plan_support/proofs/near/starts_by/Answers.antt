-- The difference is small, and compared as it is.
use Rattle.std.proofs.Common.{arith, rules}
use Rattle.scad_geom.proofs.Casts.{casts, sizes}
use Rattle.plan_support.proofs.near.starts_by.Goals as goal

pub minus-requires : goal.minus-requires
minus-requires c = record { fits = omega (arith, sizes) }

pub returns : goal.returns
returns c = search (rules, casts)
