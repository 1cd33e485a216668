use Rattle.std.proofs.Common.{◌≡◌, drop}
use Rattle.scad_value.specs.Products.{dot_from, dot, column}
use Rattle.scad_value.specs.View.{elements}
use Rattle.scad_value.proofs.product.dot_column.Given as goal

abbrev pub invariant-pairs : goal.invariant-pairs
invariant-pairs l = dot_from l.sum (elements (drop l.i l.xs)) (column l.j (elements (drop l.i l.rows)))
    ≡ dot (elements l.xs) (column l.j (elements l.rows))
