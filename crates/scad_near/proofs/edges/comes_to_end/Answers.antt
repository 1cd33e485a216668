-- The first end that is near decides.
use Rattle.std.proofs.Common.{inl}
use Rattle.scad_near.proofs.edges.comes_to_end.Goals as goal

pub returns-then-octagon_meets-clause-meets : goal.returns-then-octagon_meets-clause-meets
returns-then-octagon_meets-clause-meets c h = inl (c.octagon_meets.ensures.meets c.if-octagon_meets.true)
