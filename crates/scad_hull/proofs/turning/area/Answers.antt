-- The difference of two products of small numbers.
use Rattle.std.proofs.Common.{arith}
use Rattle.std.proofs.lemmas.Int.{to_z-of_z}
use Rattle.scad_geom.proofs.Casts.{sizes, difference_by, product_by}
use Rattle.scad_hull.proofs.turning.area.Goals as goal
use mir.Syntax.{w128}

pub returns-clause-value : goal.returns-clause-value
returns-clause-value c =
    difference_by w128 c.minus.type_inv c.minus.ensures.difference
    (product_by w128 c.times.type_inv c.times.ensures.product (to_z-of_z w128 c.args.a c.ranges.a)
    (to_z-of_z w128 c.args.d c.ranges.d))
    (product_by w128 c.times-2.type_inv c.times-2.ensures.product (to_z-of_z w128 c.args.b c.ranges.b)
    (to_z-of_z w128 c.args.c c.ranges.c))

pub returns-clause-size : goal.returns-clause-size
returns-clause-size c = omega (arith, sizes)
