use Rattle.std.proofs.Common.{◌≡◌, drop}
use Rattle.scad_value.specs.View.{elements}
use Rattle.scad_value.specs.Products.{all_numbers}
use Rattle.scad_builtin.proofs.argument.all_numbers.Given as goal

abbrev pub invariant-loop-value : goal.invariant-loop-value
invariant-loop-value l = all_numbers (elements (drop l.value-index l.values)) ≡ all_numbers (elements l.values)
