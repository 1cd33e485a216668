use Rattle.std.proofs.Common.{ℕ, ◌+◌, ◌-◌, ◌<◌, ◌≤◌, length}
use Rattle.slice_sweep.specs.Strands.{IsTogether, strand_at}
use Rattle.slice_sweep.proofs.group.group_end.Given as goal

abbrev pub invariant-group : goal.invariant-group
invariant-group l = record {
  some : l.from < l.end;
  within : l.end ≤ length l.strands;
  together : (i : ℕ) → l.from ≤ i → i + 1 < l.end
      → IsTogether l.step.edges.now l.step.lower.now (strand_at l.strands i) (strand_at l.strands (i + 1));
}

abbrev pub decreases-group : goal.decreases-group
decreases-group l = length l.strands - l.end
