use Rattle.std.proofs.Common.{drop}
use Rattle.std.specs.List.{concat}
use Rattle.slice_border.specs.Keeping.{Tells}
use Rattle.slice_bool.proofs.slab.take_all.Given as goal

abbrev pub invariant-bundles : goal.invariant-bundles
invariant-bundles l = Tells l.sweep.edges.now l.sweep.shape.now (concat (drop l.i l.bundles)) l.tally
