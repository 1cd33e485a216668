use Rattle.std.proofs.Common.{◌≡◌, length}
use Rattle.scad_parse.specs.ReadingStatements.{marks_here, marks_of}
use Rattle.scad_parse.proofs.mark.marks.Given as goal

-- the marks so far, before what is left
abbrev pub invariant-marks : goal.invariant-marks
invariant-marks l = (l.reader.end ≡ l.fn.reader.end) × ((l.reader.fault ≡ l.fn.reader.fault)
    × (marks_here (marks_of l.fn.so_far) l.fn.reader.left.now ≡ marks_here (marks_of l.all) l.reader.left.now))

abbrev pub decreases-marks : goal.decreases-marks
decreases-marks l = length l.reader.left.now
