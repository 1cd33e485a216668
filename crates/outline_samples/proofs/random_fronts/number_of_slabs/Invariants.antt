use Rattle.std.proofs.Common.{◌-◌}
use Rattle.slice_slab.specs.Active.{IsReadyFor as IsActiveFor}
use Rattle.slice_sweep.specs.Front.{IsReadyFor}
use Rattle.slice_border.specs.Levels.{level_at}
use Rattle.outline_samples.proofs.random_fronts.number_of_slabs.Given as goal

abbrev pub invariant-levels : goal.invariant-levels
invariant-levels l = record {
  front : IsReadyFor l.edges (level_at l.levels (l.i - 1)) l.front;
  active : IsActiveFor l.edges (level_at l.levels (l.i - 1)) l.active;
}
