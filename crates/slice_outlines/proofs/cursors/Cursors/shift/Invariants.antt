use Rattle.std.proofs.Common.{◌≡◌, ◌<◌, ℕ, List, length, get_or, All}
use Rattle.slice_sweep.specs.Changes.{Group, Tell}
use Rattle.slice_outlines.specs.declared.cursor.Cursor.{Cursor}
use Rattle.slice_outlines.specs.Cursor.{Fit}
use Rattle.slice_outlines.specs.Cursors.{IsAbove}
use Rattle.slice_outlines.proofs.Several.{SameFrom}
use Rattle.slice_outlines.proofs.cursors.Cursors.shift.Given as goal

abbrev pub invariant-cursors : goal.invariant-cursors
invariant-cursors l = record {
  count : length l.self.all.items ≡ length l.fn.self.all.items;
  same : SameFrom l.i l.fn.self.all.items l.self.all.items;
  done : (gs : List Group) → Tell 0 l.changes gs → All (λ c. Fit gs c.at) l.fn.self.all.items
      → (k : ℕ) (c d : Cursor) → k < l.i → IsAbove gs (get_or l.fn.self.all.items k c) (get_or l.self.all.items k d);
}
