use Rattle.std.proofs.Common.{length, ◌-◌}
use Rattle.slice_outlines.specs.Level.{IsAtLevel}
use Rattle.slice_outlines.proofs.Levelling.{IsSoFar}
use Rattle.slice_outlines.proofs.sweep.pass_level.Given as goal

abbrev pub invariant-stretches : goal.invariant-stretches
invariant-stretches l = (w : IsAtLevel l.height l.fn.kept.marks.items l.changes l.flats l.fn.kept.cursors)
    → IsSoFar l.height l.changes l.flats l.fn.kept w l.from l.passed l.kept

abbrev pub decreases-stretches : goal.decreases-stretches
decreases-stretches l = length l.flats - l.from
