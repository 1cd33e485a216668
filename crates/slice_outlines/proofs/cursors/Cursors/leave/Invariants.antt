use Rattle.std.proofs.Common.{◌≡◌, length}
use Rattle.slice_sweep.specs.Front.{bundles_in}
use Rattle.slice_outlines.specs.Cursor.{IsClearAt}
use Rattle.slice_outlines.specs.Cursors.{StayOn}
use Rattle.slice_outlines.proofs.Several.{AllTo}
use Rattle.slice_outlines.proofs.cursors.Cursors.leave.Given as goal

abbrev pub invariant-cursors : goal.invariant-cursors
invariant-cursors l = record {
  count : length l.self.all.items ≡ length l.fn.self.all.items;
  stands : StayOn l.edges (bundles_in l.front) l.fn.self l.self;
  done : AllTo (λ c. IsClearAt l.edges l.at l.marks l.flats c.at) l.i l.self.all.items;
}
