use Rattle.std.proofs.Common.{◌≡◌, ℕ, ◌+◌, ◌-◌, ◌<◌, ◌≤◌, length}
use Rattle.slice_bundles.specs.Bundles.{edge_at}
use Rattle.slice_bundles.specs.KeptOrder.{IsLeftAt, IsNotRightAt}
use Rattle.slice_sweep.specs.Strands.{head, strand_at}
use Rattle.slice_sweep.proofs.place.place.Given as goal

abbrev pub invariant-places : goal.invariant-places
invariant-places l = record {
  order : l.low ≤ l.high;
  within : l.high ≤ length l.strands;
  left : (j : ℕ) → j + 1 ≡ l.low → IsLeftAt l.at (head l.edges (strand_at l.strands j).bundle) (edge_at l.edges l.k);
  right : l.high < length l.strands
      → IsNotRightAt l.at (edge_at l.edges l.k) (head l.edges (strand_at l.strands l.high).bundle);
}

abbrev pub decreases-places : goal.decreases-places
decreases-places l = l.high - l.low
