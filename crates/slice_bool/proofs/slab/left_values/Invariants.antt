use Rattle.std.proofs.Common.{◌≡◌, ℕ, ◌+◌, ◌-◌, ◌≤◌, false, length, drop, get_or}
use Rattle.std.specs.List.{concat}
use Rattle.slice_border.specs.Keeping.{Tells}
use Rattle.slice_border.specs.Beside.{left_value}
use Rattle.slice_bool.proofs.slab.left_values.Given as goal

abbrev pub invariant-bundles : goal.invariant-bundles
invariant-bundles l = record {
  tells : Tells l.sweep.edges.now l.sweep.shape.now (concat (drop (length l.bundles - l.i) l.bundles)) l.tally;
  size : length l.values.items ≡ l.i + 1;
  each : (k : ℕ) → k ≤ l.i → get_or l.values.items k false ≡ left_value l.sweep.edges.now l.sweep.shape.now
      (drop (length l.bundles - k) l.bundles);
}
