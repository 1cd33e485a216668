-- What is kept: the points so far lie in the box.
use Rattle.std.proofs.Common.{ℕ, ◌≤◌, ◌<◌, get_or}
use Rattle.scad_geom.specs.declared.point3.Pt3.{Pt3}
use Rattle.scad_hull.specs.Blocks.{IsWithin, IsSmallBlock}
use Rattle.scad_hull.proofs.block.block_from.Given as goal

abbrev pub invariant-points : goal.invariant-points
invariant-points l = record {
  small : IsSmallBlock l.block;
  within : (k : ℕ) (d : Pt3) → l.start ≤ k → k < l.i → IsWithin l.block (get_or l.points k d);
}
