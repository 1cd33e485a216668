-- The value by those of the calls, and the sizes of what is handed on.
use Rattle.std.proofs.Common.{arith}
use Rattle.scad_geom.proofs.Casts.{sizes, difference_by, product_by}
use Rattle.scad_geom.proofs.Coordinates.{x_kept, y_kept}
use Rattle.scad_near.specs.Tests.{offset}
use Rattle.scad_near.proofs.crossing.offset.Goals as goal
use mir.Syntax.{w64}

pub times-left-requires-clause-left : goal.times-left-requires-clause-left
times-left-requires-clause-left c = omega (arith, sizes)

pub times-left-requires-clause-right : goal.times-left-requires-clause-right
times-left-requires-clause-right c = omega (arith, sizes)

pub times-right-requires-clause-left : goal.times-right-requires-clause-left
times-right-requires-clause-left c = omega (arith, sizes)

pub times-right-requires-clause-right : goal.times-right-requires-clause-right
times-right-requires-clause-right c = omega (arith, sizes)

pub minus-requires : goal.minus-requires
minus-requires c = record { fits = omega (arith, sizes) }

pub returns-clause-value : goal.returns-clause-value
unfolding offset
returns-clause-value c =
    let a = c.args.e.now.a in
    let b = c.args.e.now.b in
    let p = c.args.p in
    let a_x = x_kept a c.requires.edge.a in
    let a_y = y_kept a c.requires.edge.a in
    let b_x = x_kept b c.requires.edge.b in
    let b_y = y_kept b c.requires.edge.b in
    let p_x = x_kept p c.requires.point in
    let p_y = y_kept p c.requires.point in
    difference_by w64 c.minus.type_inv c.minus.ensures.difference
    (product_by w64 c.times-left.type_inv c.times-left.ensures.product
    (difference_by w64 c.span.type_inv c.span.ensures.difference b_x a_x)
    (difference_by w64 c.span-2.type_inv c.span-2.ensures.difference p_y a_y))
    (product_by w64 c.times-right.type_inv c.times-right.ensures.product
    (difference_by w64 c.span-3.type_inv c.span-3.ensures.difference b_y a_y)
    (difference_by w64 c.span-4.type_inv c.span-4.ensures.difference p_x a_x))

pub returns-clause-size : goal.returns-clause-size
returns-clause-size c = omega (arith, sizes)
