use Rattle.std.proofs.Common.{◌≡◌, drop}
use Rattle.scad_value.specs.Products.{by_rows}
use Rattle.scad_value.specs.View.{elements}
use Rattle.scad_value.proofs.Steps.{onto_all}
use Rattle.scad_value.proofs.matrix_product.by_rows.Given as goal

-- what is made, and then what is left
abbrev pub invariant-rows : goal.invariant-rows
invariant-rows l = onto_all l.made.items (by_rows (elements (drop l.row-index l.rows)) (elements l.ys))
    ≡ by_rows (elements l.rows) (elements l.ys)
