-- The points that are left end the chain.
use Rattle.std.proofs.Common.{◌≡◌, reverse, drop, []}
use Rattle.scad_hull.specs.Chain.{led}
use Rattle.scad_hull.proofs.chain.chain.Given as goal

abbrev pub invariant-points : goal.invariant-points
invariant-points g l = led (g.V.Plane.left l.plane) (reverse l.stack.items) (drop l.p-index l.points)
    ≡ led (g.V.Plane.left l.plane) [] l.fn.points
