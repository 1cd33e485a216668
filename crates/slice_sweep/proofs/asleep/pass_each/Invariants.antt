use Rattle.std.proofs.Common.{◌-◌, ◌<◌, ◌≤◌, ℕ}
use Rattle.slice_sweep.specs.Keys.{IsBelowKey}
use Rattle.slice_sweep.specs.Strands.{strand_at}
use Rattle.slice_sweep.proofs.asleep.pass_each.Given as goal

abbrev pub invariant-asleep : goal.invariant-asleep
invariant-asleep l = record {
  from : l.from ≤ l.place;
  within : l.place ≤ l.to;
  asleep : (i : ℕ) → l.from ≤ i → i < l.place → IsBelowKey l.step.lower.now (strand_at l.strands i).wake;
}

abbrev pub decreases-asleep : goal.decreases-asleep
decreases-asleep l = l.to - l.place
