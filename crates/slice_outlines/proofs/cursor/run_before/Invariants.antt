use Rattle.std.proofs.Common.{List, drop}
use Rattle.slice_sweep.specs.Changes.{Group, Tell}
use Rattle.slice_outlines.specs.Cursor.{Fit}
use Rattle.slice_outlines.proofs.Shifting.{ArePassedBy}
use Rattle.slice_outlines.proofs.cursor.run_before.Given as goal

abbrev pub invariant-changes : goal.invariant-changes
invariant-changes l = (gs : List Group) → Tell 0 l.changes gs → Fit gs l.at
    → ArePassedBy gs (drop l.change-index l.changes) l.done l.at
