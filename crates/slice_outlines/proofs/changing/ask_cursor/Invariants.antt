use Rattle.std.proofs.Common.{◌≡◌, ◌≤◌, ◌<◌, ℕ, drop}
use Rattle.scad_geom.specs.declared.shape.Shape.{Shape}
use Rattle.slice_sweep.specs.Front.{bundles_in}
use Rattle.slice_border.specs.Beside.{left_value}
use Rattle.slice_outlines.specs.Marks.{mark_at}
use Rattle.slice_outlines.specs.Cursors.{StandOn, StayOn}
use Rattle.slice_outlines.specs.Heights.{KeepsMarks}
use Rattle.slice_outlines.proofs.changing.ask_cursor.Given as goal

abbrev pub invariant-strands : goal.invariant-strands
invariant-strands l = record {
  values : (shape : Shape) → StandOn l.height.edges.now shape (bundles_in l.height.front.now) l.fn.kept.cursors
      → (j : ℕ) → l.run.above ≤ j → j < l.i
      → (mark_at l.kept.marks.items j).left
      ≡ left_value l.height.edges.now shape (drop j (bundles_in l.height.front.now));
  stands : StayOn l.height.edges.now (bundles_in l.height.front.now) l.fn.kept.cursors l.kept.cursors;
  keeps : KeepsMarks l.run l.fn.kept.marks.items l.kept.marks.items;
  given : l.kept.given ≡ l.fn.kept.given;
}
