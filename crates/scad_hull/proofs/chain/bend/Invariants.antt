-- What is left of the chain bends on as the whole does.
use Rattle.std.proofs.Common.{◌≡◌, reverse}
use Rattle.scad_hull.specs.Chain.{bent}
use Rattle.scad_hull.proofs.chain.bend.Given as goal

abbrev pub invariant-tops : goal.invariant-tops
invariant-tops g l = bent (g.V.Plane.left l.plane) l.p (reverse l.stack.items)
    ≡ bent (g.V.Plane.left l.plane) l.p (reverse l.fn.stack.items)

abbrev pub decreases-tops : goal.decreases-tops
decreases-tops g l = goal.left-tops g l
