use Rattle.std.proofs.Common.{◌≡◌, drop}
use Rattle.scad_value.specs.Products.{dot_from, dot}
use Rattle.scad_value.specs.View.{elements}
use Rattle.scad_value.proofs.product.dot.Given as goal

abbrev pub invariant-pairs : goal.invariant-pairs
invariant-pairs l = dot_from l.sum (elements (drop l.i l.xs)) (elements (drop l.i l.ys)) ≡ dot (elements l.xs)
    (elements l.ys)
