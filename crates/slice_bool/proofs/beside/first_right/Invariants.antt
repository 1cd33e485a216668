use Rattle.std.proofs.Common.{◌≡◌, ℕ, ◌<◌, ◌≤◌, ◌-◌, false, List, length, get_or}
use Rattle.slice_pieces.specs.Spots.{point_of}
use Rattle.slice_border.specs.Beside.{is_right_of}
use Rattle.slice_bool.proofs.beside.first_right.Given as goal

abbrev pub invariant-bundles : goal.invariant-bundles
invariant-bundles l = record {
  there : l.k ≤ length l.bundles;
  after : l.from ≤ l.k;
  passed : (j : ℕ) (d : List ℕ) → l.from ≤ j → j < l.k
      → is_right_of l.edges (point_of l.s.spot) (get_or l.bundles j d) ≡ false;
}

abbrev pub decreases-bundles : goal.decreases-bundles
decreases-bundles l = length l.bundles - l.k
