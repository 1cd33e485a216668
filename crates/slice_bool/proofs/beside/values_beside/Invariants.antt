use Rattle.std.proofs.Common.{◌≡◌, ℕ, ◌<◌, ◌≤◌, true, false, List, length, get_or}
use Rattle.slice_pieces.specs.Spots.{point_of}
use Rattle.slice_border.specs.declared.stop.Stop.{Stop}
use Rattle.slice_border.specs.Beside.{left_value, passing, is_right_of}
use Rattle.slice_bool.proofs.beside.values_beside.Given as goal

abbrev pub invariant-stops : goal.invariant-stops
invariant-stops l = record {
  there : l.from ≤ length l.side.bundles.items;
  passed : (j : ℕ) (d : List ℕ) (e : Stop) → j < l.from → l.s-index < length l.stops
      → is_right_of l.sweep.edges.now (point_of (get_or l.stops l.s-index e).spot) (get_or l.side.bundles.items j d)
      ≡ false;
  size : length l.values.items ≡ l.s-index;
  each : (k : ℕ) (d : Stop) → k < l.s-index
      → get_or l.values.items k false ≡ left_value l.sweep.edges.now l.sweep.shape.now
      (passing l.sweep.edges.now true (point_of (get_or l.stops k d).spot) l.side.bundles.items);
}
