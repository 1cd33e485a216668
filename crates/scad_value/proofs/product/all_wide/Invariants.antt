use Rattle.std.proofs.Common.{◌≡◌, drop}
use Rattle.scad_value.specs.Products.{all_wide}
use Rattle.scad_value.specs.View.{elements}
use Rattle.scad_value.proofs.product.all_wide.Given as goal

abbrev pub invariant-rows : goal.invariant-rows
invariant-rows l = all_wide l.n (elements (drop l.row-index l.all)) ≡ all_wide l.n (elements l.all)
