-- The sizes of what is handed on, and the sum of the two products.
use Rattle.std.proofs.Common.{◌≡◌, to_z, of_z, arith}
use Rattle.scad_geom.proofs.Casts.{sizes, casts, difference_by, product_by, sum_by}
use Rattle.slice_loops.specs.Corners.{advance}
use mir.Syntax.{w32, w128}
use Rattle.slice_loops.proofs.corners.advance.Goals as goal

pub times-requires-clause-left : goal.times-requires-clause-left
times-requires-clause-left c = omega (arith, sizes)

pub times-requires-clause-right : goal.times-requires-clause-right
times-requires-clause-right c = omega (arith, sizes)

pub times-requires-2-clause-left : goal.times-requires-2-clause-left
times-requires-2-clause-left c = omega (arith, sizes)

pub times-requires-2-clause-right : goal.times-requires-2-clause-right
times-requires-2-clause-right c = omega (arith, sizes)

pub plus-requires : goal.plus-requires
plus-requires c = record { fits = omega (arith, sizes) }

pub returns : goal.returns
unfolding advance
returns c =
    let ax : to_z w32 (of_z w32 c.args.a.x) ≡ c.args.a.x = search casts in
    let ay : to_z w32 (of_z w32 c.args.a.y) ≡ c.args.a.y = search casts in
    let px : to_z w32 (of_z w32 c.args.p.x) ≡ c.args.p.x = search casts in
    let py : to_z w32 (of_z w32 c.args.p.y) ≡ c.args.p.y = search casts in
    let bx : to_z w32 (of_z w32 c.args.b.x) ≡ c.args.b.x = search casts in
    let by : to_z w32 (of_z w32 c.args.b.y) ≡ c.args.b.y = search casts in
    sum_by w128 c.plus.type_inv c.plus.ensures.sum
    (product_by w128 c.times.type_inv c.times.ensures.product
    (difference_by w128 c.span.type_inv c.span.ensures.difference px ax)
    (difference_by w128 c.span-2.type_inv c.span-2.ensures.difference bx px))
    (product_by w128 c.times-2.type_inv c.times-2.ensures.product
    (difference_by w128 c.span-3.type_inv c.span-3.ensures.difference py ay)
    (difference_by w128 c.span-4.type_inv c.span-4.ensures.difference by py))
