-- The product of two differences.
use Rattle.std.proofs.Common.{arith}
use Rattle.std.proofs.lemmas.Int.{to_z-of_z}
use Rattle.scad_geom.proofs.Casts.{sizes, difference_by, product_by}
use Rattle.scad_hull.proofs.axis.area.Goals as goal
use mir.Syntax.{w32, w128}

pub returns-clause-value : goal.returns-clause-value
returns-clause-value c =
    product_by w128 c.times.type_inv c.times.ensures.product
    (difference_by w128 c.span.type_inv c.span.ensures.difference (to_z-of_z w32 c.args.right c.ranges.right)
    (to_z-of_z w32 c.args.left c.ranges.left))
    (difference_by w128 c.span-2.type_inv c.span-2.ensures.difference (to_z-of_z w32 c.args.high c.ranges.high)
    (to_z-of_z w32 c.args.low c.ranges.low))

pub returns-clause-size : goal.returns-clause-size
returns-clause-size c = omega (arith, sizes)
