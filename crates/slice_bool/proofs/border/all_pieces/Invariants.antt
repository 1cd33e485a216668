use Rattle.std.proofs.Common.{◌<◌, [], drop, length, false}
use Rattle.slice_slab.specs.Active.{IsReadyFor}
use Rattle.slice_border.specs.Levels.{level_at}
use Rattle.slice_border.specs.Keeping.{Tells}
use Rattle.slice_bool.specs.BothSides.{IsSide}
use Rattle.slice_bool.proofs.Climbing.{Goes}
use Rattle.slice_bool.proofs.border.all_pieces.Given as goal

abbrev pub invariant-levels : goal.invariant-levels
invariant-levels l = record {
  pieces : Goes l.edges l.shape l.levels (drop l.i l.levels) l.out.items;
  active : l.i < length l.levels → IsReadyFor l.edges (level_at l.levels l.i) l.climb.active;
  tally : Tells l.edges l.shape [] l.climb.tally;
  below : l.i < length l.levels → IsSide false l.edges l.shape (level_at l.levels l.i) l.climb.below;
}
