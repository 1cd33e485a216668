use Rattle.std.proofs.Common.{◌≡◌, drop, fold}
use Rattle.std.specs.Int.{int_min}
use Rattle.scad_value.specs.View.{elements}
use Rattle.scad_builtin.specs.Arguments.{numbers}
use Rattle.scad_builtin.proofs.extreme.least_onto.Given as goal

abbrev pub invariant-loop-value : goal.invariant-loop-value
invariant-loop-value l = fold int_min l.least (numbers (elements (drop l.value-index l.more))) ≡ fold int_min l.fn.first
    (numbers (elements l.more))
