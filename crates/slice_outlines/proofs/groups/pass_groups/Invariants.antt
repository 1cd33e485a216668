use Rattle.std.proofs.Common.{◌-◌, length}
use Rattle.slice_outlines.specs.Ahead.{AreBetween}
use Rattle.slice_outlines.proofs.Passage.{IsPast}
use Rattle.slice_outlines.proofs.groups.pass_groups.Given as goal

abbrev pub invariant-changes : goal.invariant-changes
invariant-changes l = (w : AreBetween l.height l.fn.kept.marks.items l.changes l.fn.passed l.limit)
    → IsPast l.height l.changes l.limit l.fn.kept l.fn.passed w l.passed l.kept

abbrev pub decreases-changes : goal.decreases-changes
decreases-changes l = length l.changes - l.passed.count
