use Rattle.std.proofs.Common.{◌-◌, length}
use Rattle.slice_outlines.specs.Heights.{IsCountOf}
use Rattle.slice_outlines.specs.Ahead.{between}
use Rattle.slice_outlines.proofs.SkippedGroups.{IsSkipped}
use Rattle.slice_outlines.proofs.groups.skip_groups.Given as goal

abbrev pub invariant-changes : goal.invariant-changes
invariant-changes l = record {
  count : IsCountOf l.changes l.passed;
  skipped : IsSkipped l.changes (between l.limit.below_to l.limit.above_to) l.fn.passed l.passed;
}

abbrev pub decreases-changes : goal.decreases-changes
decreases-changes l = length l.changes - l.passed.count
