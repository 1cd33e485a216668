use Rattle.std.proofs.Common.{length, ◌-◌, ◌≡◌, ◌<◌, ◌≤◌, true, ℕ}
use Rattle.slice_loops.specs.Remaining.{taken_at}
use Rattle.slice_loops.proofs.remainder.untaken_from.Given as goal

-- all places so far are of taken edges
abbrev pub invariant-places : goal.invariant-places
invariant-places l = record {
  after : l.from ≤ l.place;
  inside : l.place ≤ length l.taken;
  skipped : (k : ℕ) → l.from ≤ k → k < l.place → taken_at l.taken k ≡ true;
}

abbrev pub decreases-places : goal.decreases-places
decreases-places l = length l.taken - l.place
