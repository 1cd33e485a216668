-- The corners of what was meant.
use Rattle.std.proofs.Common.{rules}
use Rattle.scad_geom.proofs.Casts.{casts}
use Rattle.scad_ring.proofs.widening.four_sided.Goals as goal

pub returns-in-Still : goal.returns-in-Still
returns-in-Still c = search (rules, casts)

pub returns-in-Flat : goal.returns-in-Flat
returns-in-Flat c = search (rules, casts)

pub returns-in-Right : goal.returns-in-Right
returns-in-Right c = search (rules, casts)

pub returns-in-DiagonalRight : goal.returns-in-DiagonalRight
returns-in-DiagonalRight c = search (rules, casts)

pub returns-in-SteepRight : goal.returns-in-SteepRight
returns-in-SteepRight c = search (rules, casts)

pub returns-in-Upright : goal.returns-in-Upright
returns-in-Upright c = search (rules, casts)

pub returns-in-SteepLeft : goal.returns-in-SteepLeft
returns-in-SteepLeft c = search (rules, casts)

pub returns-in-DiagonalLeft : goal.returns-in-DiagonalLeft
returns-in-DiagonalLeft c = search (rules, casts)

pub returns-in-Left : goal.returns-in-Left
returns-in-Left c = search (rules, casts)
