use Rattle.std.proofs.Common.{◌≡◌, ◌++◌, drop}
use Rattle.slice_bundles.specs.Starts.{numbers_of, begun_at, pending_at}
use Rattle.slice_slab.proofs.lower_ends.begin.Given as goal

abbrev pub invariant-starts : goal.invariant-starts
invariant-starts l = record {
  begun : l.live.items ++ numbers_of (begun_at l.at (drop l.i l.starts))
      ≡ l.fn.live.items ++ numbers_of (begun_at l.at (drop l.from l.starts));
  pending : pending_at l.at (drop l.i l.starts) ≡ pending_at l.at (drop l.from l.starts);
}
