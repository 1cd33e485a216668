-- The cross product by those of the calls, and the sizes of what is handed on.
use Rattle.std.proofs.Common.{FitsSigned, rules, arith}
use Rattle.scad_geom.proofs.Casts.{sizes, difference_by, product_by, read_widened}
use Rattle.scad_geom.proofs.area.cross.Goals as goal
use mir.Syntax.{w32, w128}

pub times-requires-clause-left : goal.times-requires-clause-left
times-requires-clause-left c = omega (arith, sizes)

pub times-requires-clause-right : goal.times-requires-clause-right
times-requires-clause-right c = omega (arith, sizes)

pub times-requires-2-clause-left : goal.times-requires-2-clause-left
times-requires-2-clause-left c = omega (arith, sizes)

pub times-requires-2-clause-right : goal.times-requires-2-clause-right
times-requires-2-clause-right c = omega (arith, sizes)

pub minus-requires : goal.minus-requires
minus-requires c = record { fits = omega (arith, sizes) }

pub returns-clause-size : goal.returns-clause-size
returns-clause-size c = omega (arith, sizes)

pub returns-clause-value : goal.returns-clause-value
returns-clause-value c =
    let a = c.args.a in
    let b = c.args.b in
    let a_x : FitsSigned w32 a.x = search rules in
    let a_y : FitsSigned w32 a.y = search rules in
    let b_x : FitsSigned w32 b.x = search rules in
    let b_y : FitsSigned w32 b.y = search rules in
    difference_by w128 c.minus.type_inv c.minus.ensures.difference
    (product_by w128 c.times.type_inv c.times.ensures.product (read_widened a.x a_x) (read_widened b.y b_y))
    (product_by w128 c.times-2.type_inv c.times-2.ensures.product (read_widened b.x b_x) (read_widened a.y a_y))
