-- The points found so far, with those that are left, are all.
use Rattle.std.proofs.Common.{◌≡◌, drop, []}
use Rattle.scad_hull.specs.Distinct.{with_all}
use Rattle.scad_hull.proofs.distinct.distinct.Given as goal

abbrev pub invariant-points : goal.invariant-points
invariant-points g l = with_all g.P.Ord.cmp l.found.keys (drop l.p-index l.points)
    ≡ with_all g.P.Ord.cmp [] l.fn.points
