-- The sizes of what is handed on, and the difference of the products.
use Rattle.std.proofs.Common.{arith}
use Rattle.std.proofs.lemmas.Int.{to_z-of_z}
use mir.Syntax.{w128}
use Rattle.scad_geom.proofs.Casts.{sizes, difference_by, product_by}
use Rattle.slice_section.proofs.inside.ends_apart.Goals as goal

pub times-requires-clause-left : goal.times-requires-clause-left
times-requires-clause-left c = omega (arith, sizes)

pub times-requires-clause-right : goal.times-requires-clause-right
times-requires-clause-right c = omega (arith, sizes)

pub times-requires-2-clause-left : goal.times-requires-2-clause-left
times-requires-2-clause-left c = omega (arith, sizes)

pub times-requires-2-clause-right : goal.times-requires-2-clause-right
times-requires-2-clause-right c = omega (arith, sizes)

pub minus-requires : goal.minus-requires
minus-requires c = record { fits = omega (arith, sizes) }

pub returns-clause-value : goal.returns-clause-value
returns-clause-value c =
    difference_by w128 c.minus.type_inv c.minus.ensures.difference
    (product_by w128 c.times.type_inv c.times.ensures.product (to_z-of_z w128 c.args.to c.ranges.to)
    (to_z-of_z w128 c.args.from_divisor c.ranges.from_divisor))
    (product_by w128 c.times-2.type_inv c.times-2.ensures.product (to_z-of_z w128 c.args.from c.ranges.from)
    (to_z-of_z w128 c.args.to_divisor c.ranges.to_divisor))

pub returns-clause-size : goal.returns-clause-size
returns-clause-size c = omega (arith, sizes)
