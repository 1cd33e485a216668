use Rattle.std.proofs.Common.{◌-◌, drop}
use Rattle.slice_outlines.specs.Sweep.{HasSwept}
use Rattle.slice_outlines.proofs.outlining.merged_edges.Given as goal

abbrev pub invariant-levels : goal.invariant-levels
invariant-levels l = HasSwept l.edges l.shape l.levels (drop (l.i - 1) l.levels) l.sweep
