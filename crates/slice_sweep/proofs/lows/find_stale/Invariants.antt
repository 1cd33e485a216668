use Rattle.std.proofs.Common.{◌≡◌, length}
use Rattle.slice_sweep.specs.Lows.{AreLow}
use Rattle.slice_sweep.proofs.lows.find_stale.Given as goal

abbrev pub invariant-row : goal.invariant-row
invariant-row l = record {
  low : AreLow l.lows.items l.strands;
  size : length l.lows.items ≡ length l.fn.lows.items;
}
