use Rattle.std.proofs.Common.{◌-◌, ◌<◌, ◌≤◌, ℕ, length}
use Rattle.slice_sweep.specs.Keys.{IsBelowKey}
use Rattle.slice_sweep.specs.Strands.{strand_at}
use Rattle.slice_sweep.proofs.asleep.pass_asleep.Given as goal

abbrev pub invariant-asleep : goal.invariant-asleep
invariant-asleep l = record {
  from : l.from ≤ l.place;
  next : l.place ≤ l.next;
  within : l.next ≤ length l.strands;
  asleep : (i : ℕ) → l.from ≤ i → i < l.next → IsBelowKey l.step.lower.now (strand_at l.strands i).wake;
}

abbrev pub decreases-asleep : goal.decreases-asleep
decreases-asleep l = length l.strands - l.place
