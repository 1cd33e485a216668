use Rattle.std.proofs.Common.{◌≡◌, ◌++◌, drop}
use Rattle.slice_bundles.specs.Starts.{numbers_of, begun_at, pending_at}
use Rattle.slice_sweep.specs.LowerEnds.{starts_of}
use Rattle.slice_sweep.proofs.lower_ends.begin.Given as goal

abbrev pub invariant-ends : goal.invariant-ends
invariant-ends l = record {
  begun : l.numbers.items ++ numbers_of (begun_at l.at (starts_of (drop l.i l.ends)))
      ≡ l.fn.numbers.items ++ numbers_of (begun_at l.at (starts_of (drop l.from l.ends)));
  pending : pending_at l.at (starts_of (drop l.i l.ends)) ≡ pending_at l.at (starts_of (drop l.from l.ends));
}
