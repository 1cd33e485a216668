-- What is kept: the points so far lie in the blocks so far.
use Rattle.std.proofs.Common.{◌≡◌, ℕ, ◌-◌, ◌*◌, ◌<◌, ◌/◌, length, min, get_or, All}
use Rattle.scad_geom.specs.declared.point3.Pt3.{Pt3}
use Rattle.scad_hull.specs.declared.block.Block.{Block}
use Rattle.scad_hull.specs.Blocks.{IsWithin, IsSmallBlock}
use Rattle.scad_hull.proofs.block.blocks_of.Given as goal

abbrev pub invariant-starts : goal.invariant-starts
invariant-starts l = record {
  at : l.start ≡ min (32 * length l.blocks.items) (length l.points);
  small : All IsSmallBlock l.blocks.items;
  within : (k : ℕ) (d : Pt3) (e : Block) → k < l.start
      → IsWithin (get_or l.blocks.items (k / 32) e) (get_or l.points k d);
}

abbrev pub decreases-starts : goal.decreases-starts
decreases-starts l = length l.points - l.start
