use Rattle.std.proofs.Common.{◌<◌, ◌≤◌, ℕ}
use lib.Signed.{◌≤ℤ◌}
use Rattle.slice_sweep.specs.Strands.{strand_at}
use Rattle.slice_sweep.proofs.lows.least_key.Given as goal

abbrev pub invariant-strands : goal.invariant-strands
invariant-strands l = (i : ℕ) → l.from ≤ i → i < l.i → l.least ≤ℤ (strand_at l.strands i).wake
