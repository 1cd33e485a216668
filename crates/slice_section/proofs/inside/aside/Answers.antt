-- The sizes of what is handed on, and the product of the differences.
use Rattle.std.proofs.Common.{refl, ◌∙◌, arith}
use Rattle.std.proofs.lemmas.Int.{to_z-of_z}
use mir.Syntax.{w128}
use Rattle.scad_geom.proofs.Casts.{sizes, by_cast, product_by}
use Rattle.slice_section.proofs.Differences.{crossed_by}
use Rattle.slice_section.proofs.inside.aside.Goals as goal

pub times-requires-clause-left : goal.times-requires-clause-left
times-requires-clause-left c = omega (arith, sizes)

pub times-requires-clause-right : goal.times-requires-clause-right
times-requires-clause-right c = omega (arith, sizes)

pub returns-clause-value : goal.returns-clause-value
returns-clause-value c =
    let divisor = to_z-of_z w128 c.args.from_divisor c.ranges.from_divisor in
    product_by w128 c.times.type_inv c.times.ensures.product
    (by_cast w128 c.ends_apart.type_inv (c.ends_apart.ensures.value
    ∙ crossed_by (to_z-of_z w128 c.args.to c.ranges.to) divisor (to_z-of_z w128 c.args.from c.ranges.from)
    (to_z-of_z w128 c.args.to_divisor c.ranges.to_divisor)))
    (by_cast w128 c.point_apart.type_inv (c.point_apart.ensures.value
    ∙ crossed_by (to_z-of_z w128 c.args.point c.ranges.point) divisor (to_z-of_z w128 c.args.end c.ranges.end) refl))

pub returns-clause-size : goal.returns-clause-size
returns-clause-size c = omega (arith, sizes)
