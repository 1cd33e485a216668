-- The corners of what was meant.
use Rattle.std.proofs.Common.{rules}
use Rattle.scad_geom.proofs.Casts.{casts}
use Rattle.scad_ring.proofs.octagon.Eight.round.Goals as goal

pub returns-clause-low_left : goal.returns-clause-low_left
returns-clause-low_left c = search (rules, casts)

pub returns-clause-low_right : goal.returns-clause-low_right
returns-clause-low_right c = search (rules, casts)

pub returns-clause-right_low : goal.returns-clause-right_low
returns-clause-right_low c = search (rules, casts)

pub returns-clause-right_high : goal.returns-clause-right_high
returns-clause-right_high c = search (rules, casts)

pub returns-clause-high_right : goal.returns-clause-high_right
returns-clause-high_right c = search (rules, casts)

pub returns-clause-high_left : goal.returns-clause-high_left
returns-clause-high_left c = search (rules, casts)

pub returns-clause-left_high : goal.returns-clause-left_high
returns-clause-left_high c = search (rules, casts)

pub returns-clause-left_low : goal.returns-clause-left_low
returns-clause-left_low c = search (rules, casts)
