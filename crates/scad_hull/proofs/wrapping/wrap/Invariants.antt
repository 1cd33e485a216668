-- What was found are faces with all their bends, and behind the side of each bend so far there is one of them.
use Rattle.std.proofs.Common.{ℕ, ◌<◌, ◌≤◌, ◌-◌, length, get_or}
use Rattle.scad_hull.specs.declared.wrapping.Bend.{Bend}
use Rattle.scad_hull.specs.Wrapping.{rings_of, IsFound, HasBack}
use Rattle.scad_hull.proofs.wrapping.wrap.Given as goal

abbrev pub invariant-bends : goal.invariant-bends
invariant-bends l = record {
  found : IsFound l.fn.cloud.points.now (rings_of l.faces.items) l.bends.items l.sides.keys;
  first : 0 < length l.faces.items;
  upto : l.i ≤ length l.bends.items;
  backs : (k : ℕ) (d : Bend) → k < l.i → HasBack (rings_of l.faces.items) (get_or l.bends.items k d);
}

abbrev pub decreases-bends : goal.decreases-bends
decreases-bends l = 18446744073709551615 - l.i
