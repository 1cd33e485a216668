use Rattle.std.proofs.Common.{◌≡◌, drop}
use Rattle.scad_value.specs.Products.{all_numbers}
use Rattle.scad_value.specs.View.{elements}
use Rattle.scad_value.proofs.product.numbers_in.Given as goal

abbrev pub invariant-elements : goal.invariant-elements
invariant-elements l = all_numbers (elements (drop l.v-index l.all)) ≡ all_numbers (elements l.all)
