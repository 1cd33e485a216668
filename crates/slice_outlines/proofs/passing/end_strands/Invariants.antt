use Rattle.std.proofs.Common.{◌≡◌, ◌++◌, drop}
use Rattle.slice_outlines.specs.Passing.{courses, edges_to}
use Rattle.slice_outlines.proofs.passing.end_strands.Given as goal

abbrev pub invariant-strands : goal.invariant-strands
invariant-strands l = l.given.items ++ edges_to l.at (courses l.side.right (drop l.i l.side.marks.now))
    ≡ l.fn.given.items ++ edges_to l.at (courses l.side.right l.side.marks.now)
