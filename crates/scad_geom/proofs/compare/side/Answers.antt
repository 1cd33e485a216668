-- The side by the values of the calls, and the sizes of what is handed on.
use Rattle.std.proofs.Common.{◌∙◌, ap, arith}
use Rattle.scad_geom.specs.Sign.{sign_of}
use Rattle.scad_geom.proofs.Casts.{sizes, by_cast, difference_by, product_by}
use Rattle.scad_geom.proofs.CommonDivisor.{side_of_wholes}
use Rattle.scad_geom.proofs.Coordinates.{x_kept, y_kept}
use Rattle.scad_geom.proofs.compare.side.Goals as goal
use mir.Syntax.{w8, w128}

pub times-left-requires-clause-left : goal.times-left-requires-clause-left
times-left-requires-clause-left c = omega (arith, sizes)

pub times-left-requires-clause-right : goal.times-left-requires-clause-right
times-left-requires-clause-right c = omega (arith, sizes)

pub times-right-requires-clause-left : goal.times-right-requires-clause-left
times-right-requires-clause-left c = omega (arith, sizes)

pub times-right-requires-clause-right : goal.times-right-requires-clause-right
times-right-requires-clause-right c = omega (arith, sizes)

pub minus-requires : goal.minus-requires
minus-requires c = record { fits = omega (arith, sizes) }

pub returns : goal.returns
returns c =
    let a = c.args.e.now.a in
    let b = c.args.e.now.b in
    let a_x = x_kept a c.requires.edge.a in
    let a_y = y_kept a c.requires.edge.a in
    let b_x = x_kept b c.requires.edge.b in
    let b_y = y_kept b c.requires.edge.b in
    let x = x_kept c.args.p c.requires.point in
    let y = y_kept c.args.p c.requires.point in
    by_cast w8 c.sign.type_inv c.sign.ensures
    ∙ ap sign_of (difference_by w128 c.minus.type_inv c.minus.ensures.difference
    (product_by w128 c.times-left.type_inv c.times-left.ensures.product
    (difference_by w128 c.span.type_inv c.span.ensures.difference b_x a_x)
    (difference_by w128 c.span-2.type_inv c.span-2.ensures.difference y a_y))
    (product_by w128 c.times-right.type_inv c.times-right.ensures.product
    (difference_by w128 c.span-3.type_inv c.span-3.ensures.difference b_y a_y)
    (difference_by w128 c.span-4.type_inv c.span-4.ensures.difference x a_x))
    ∙ side_of_wholes c.args.p a b)
