use Rattle.std.proofs.Common.{◌/◌}
use Rattle.slice_sweep.specs.Lows.{block}
use Rattle.slice_sweep.proofs.Blocks.{AreForgotten}
use Rattle.slice_sweep.proofs.lows.forget_within.Given as goal

abbrev pub invariant-row : goal.invariant-row
invariant-row l = AreForgotten (l.from / block) l.b l.fn.lows.items l.lows.items
