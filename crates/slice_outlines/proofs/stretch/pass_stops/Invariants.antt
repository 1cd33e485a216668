use Rattle.std.proofs.Common.{◌≡◌, List, ◌++◌, take, drop, None}
use Rattle.slice_pieces.specs.declared.piece.Spot.{Spot}
use Rattle.slice_outlines.specs.Marks.{names_in}
use Rattle.slice_border.specs.Stops.{spots_in}
use Rattle.slice_outlines.specs.Heights.{Onwards, IsOf}
use Rattle.slice_outlines.specs.Along.{HasComeOver, HasComeAlong}
use Rattle.slice_outlines.specs.Stretch.{TellWays, Waits}
use Rattle.slice_outlines.proofs.stretch.pass_stops.Given as goal

abbrev pub invariant-stops : goal.invariant-stops
invariant-stops l = record {
  names : names_in l.kept.marks.items ≡ names_in l.fn.kept.marks.items;
  right : drop l.run.above_to l.kept.marks.items ≡ drop l.run.above_to l.fn.kept.marks.items;
  cursors : l.kept.cursors ≡ l.fn.kept.cursors;
  waits : Waits l.height l.kept.marks.items l.run l.flats (drop l.s-index l.stops) l.along;
  passed : (on : Onwards) (passed : List Spot) → IsOf l.height on → TellWays l.height.edges.now l.flats l.stops
      → HasComeOver on passed (spots_in l.stops) l.run l.run.below l.run.above None l.fn.kept.marks.items
      l.fn.kept.given.items l.fn.kept.cursors
      → HasComeAlong on (passed ++ spots_in (take l.s-index l.stops)) (spots_in
      (drop l.s-index l.stops)) l.along l.kept;
}
