use Rattle.std.proofs.Common.{◌-◌, [], length, All}
use Rattle.slice_outlines.specs.Cursor.{StandsOn}
use Rattle.slice_outlines.proofs.cursors.Cursors.new.Given as goal

abbrev pub invariant-cursors : goal.invariant-cursors
invariant-cursors l = All (StandsOn l.edges l.shape []) l.all.items

abbrev pub decreases-cursors : goal.decreases-cursors
decreases-cursors l = 4 - length l.all.items
