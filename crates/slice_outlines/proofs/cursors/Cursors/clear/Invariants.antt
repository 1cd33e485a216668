use Rattle.std.proofs.Common.{◌≡◌, [], length}
use Rattle.scad_geom.specs.declared.shape.Shape.{Shape}
use Rattle.slice_sweep.specs.Front.{bundles_in}
use Rattle.slice_outlines.specs.Cursor.{StandsOn}
use Rattle.slice_outlines.specs.Cursors.{StandOn}
use Rattle.slice_outlines.proofs.Several.{AllTo, SameFrom}
use Rattle.slice_outlines.proofs.cursors.Cursors.clear.Given as goal

abbrev pub invariant-cursors : goal.invariant-cursors
invariant-cursors l = record {
  count : length l.self.all.items ≡ length l.fn.self.all.items;
  same : SameFrom l.i l.fn.self.all.items l.self.all.items;
  done : (shape : Shape) → StandOn l.edges shape (bundles_in l.front) l.fn.self
      → AllTo (StandsOn l.edges shape []) l.i l.self.all.items;
}
