use Rattle.std.proofs.Common.{◌≡◌, ◌≤◌, ◌*◌, ◌^◌, ◌+ℤ◌, drop, unsigned_abs}
use Rattle.scad_geom.specs.Loop.{path}
use Rattle.scad_geom.specs.Area.{cross_sum}
use Rattle.scad_geom.proofs.area.cross_sum_round.Given as goal

-- the sum so far has one cross product for each point, and what is left completes it
abbrev pub invariant-points : goal.invariant-points
invariant-points l = record {
  small : unsigned_abs l.sum ≤ l.to-index * 2 ^ 63;
  sum : cross_sum (path l.first l.rest l.first)
      ≡ l.sum +ℤ cross_sum (path l.from (drop l.to-index l.rest) l.first);
}
