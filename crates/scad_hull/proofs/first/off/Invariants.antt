-- The points so far lie on the line.
use Rattle.std.proofs.Common.{◌≡◌, drop}
use Rattle.std.specs.List.{list_all}
use Rattle.scad_hull.specs.Space.{normal_of, is_none}
use Rattle.scad_hull.proofs.first.off.Given as goal

abbrev pub invariant-points : goal.invariant-points
invariant-points l = list_all (λ p. is_none (normal_of l.a l.b p)) (drop l.p-index l.points)
    ≡ list_all (λ p. is_none (normal_of l.a l.b p)) l.fn.points
