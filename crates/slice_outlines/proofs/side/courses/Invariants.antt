use Rattle.std.proofs.Common.{◌≡◌, List, ◌++◌, drop}
use Rattle.slice_outlines.specs.declared.course.Course.{Course}
use Rattle.slice_outlines.specs.Passing.{courses, alone}
use Rattle.slice_outlines.proofs.side.courses.Given as goal

abbrev pub invariant-strands : goal.invariant-strands
invariant-strands l = (cs : List Course) × (l.all ≡ alone cs)
    × (cs ++ courses l.side.right (drop l.i l.side.marks.now) ≡ courses l.side.right l.side.marks.now)
