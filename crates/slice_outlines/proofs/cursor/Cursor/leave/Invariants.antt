use Rattle.std.proofs.Common.{◌-◌, length}
use Rattle.slice_sweep.specs.Front.{bundles_in}
use Rattle.slice_outlines.specs.Cursor.{StaysOn}
use Rattle.slice_outlines.proofs.cursor.Cursor.leave.Given as goal

abbrev pub invariant-strands : goal.invariant-strands
invariant-strands l = StaysOn l.edges (bundles_in l.front) l.fn.self l.self

abbrev pub decreases-strands : goal.decreases-strands
decreases-strands l = length l.marks - l.self.at
