-- The sizes of what is handed on, and the comparison of the products.
use Rattle.std.proofs.Common.{refl, ap₂, arith}
use Rattle.std.specs.Prelude.{int_lt}
use Rattle.std.proofs.lemmas.Int.{to_z-of_z}
use mir.Syntax.{w128}
use Rattle.scad_geom.proofs.Casts.{sizes, handed, product_by}
use Rattle.slice_section.proofs.inside.is_above.Goals as goal

pub times-requires-clause-left : goal.times-requires-clause-left
times-requires-clause-left c = omega (arith, sizes)

pub times-requires-clause-right : goal.times-requires-clause-right
times-requires-clause-right c = omega (arith, sizes)

pub times-requires-2-clause-left : goal.times-requires-2-clause-left
times-requires-2-clause-left c = omega (arith, sizes)

pub returns : goal.returns
returns c =
    let end = c.args.end.now in
    ap₂ int_lt
    (product_by w128 c.times.type_inv c.times.ensures.product (to_z-of_z w128 c.args.y c.ranges.y)
    (handed w128 end.d (omega (arith, c.requires.end.d)) refl))
    (product_by w128 c.times-2.type_inv c.times-2.ensures.product
    (handed w128 end.y (omega (arith, c.requires.end.y)) refl) refl)
