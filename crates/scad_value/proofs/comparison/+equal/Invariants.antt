use Rattle.std.proofs.Common.{◌≡◌, drop}
use Rattle.scad_value.specs.Comparison.{equal_all}
use Rattle.scad_value.specs.View.{elements}
use Rattle.scad_value.proofs.comparison.+equal.Given as goal

abbrev pub invariant-equal_all-pairs : goal.invariant-equal_all-pairs
invariant-equal_all-pairs l = equal_all (elements (drop l.i l.xs)) (elements (drop l.i l.ys))
    ≡ equal_all (elements l.xs) (elements l.ys)
