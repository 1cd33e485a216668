-- The points so far lie on the outer side or in the plane.
use Rattle.std.proofs.Common.{◌≡◌, drop, pos, int_lt}
use Rattle.std.specs.List.{list_any}
use Rattle.scad_hull.specs.Space.{depth_of}
use Rattle.scad_hull.proofs.first.has_inner.Given as goal

abbrev pub invariant-points : goal.invariant-points
invariant-points l = list_any (λ p. int_lt (pos 0) (depth_of l.normal l.a p)) (drop l.p-index l.points)
    ≡ list_any (λ p. int_lt (pos 0) (depth_of l.normal l.a p)) l.fn.points
