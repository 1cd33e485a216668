use Rattle.std.proofs.Common.{◌≡◌, drop, fold}
use Rattle.std.specs.Int.{int_max}
use Rattle.scad_value.specs.View.{elements}
use Rattle.scad_builtin.specs.Arguments.{numbers}
use Rattle.scad_builtin.proofs.extreme.greatest_onto.Given as goal

abbrev pub invariant-loop-value : goal.invariant-loop-value
invariant-loop-value l = fold int_max l.greatest (numbers (elements (drop l.value-index l.more))) ≡ fold int_max
    l.fn.first (numbers (elements l.more))
