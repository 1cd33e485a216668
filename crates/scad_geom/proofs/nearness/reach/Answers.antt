-- The sum by the values of the calls, and the sizes of what is handed on.
use Rattle.std.proofs.Common.{refl, arith}
use Rattle.std.proofs.lemmas.Int.{to_z-of_z}
use Rattle.scad_geom.proofs.Casts.{sizes, sum_by, difference_by, product_by, handed}
use Rattle.scad_geom.proofs.nearness.reach.Goals as goal
use mir.Syntax.{w64}

pub minus-requires : goal.minus-requires
minus-requires c = record { fits = omega (arith, sizes) }

pub times-right-requires-clause-left : goal.times-right-requires-clause-left
times-right-requires-clause-left c = omega (arith, sizes)

pub times-right-requires-clause-right : goal.times-right-requires-clause-right
times-right-requires-clause-right c = omega (arith, sizes)

pub minus-requires-2 : goal.minus-requires-2
minus-requires-2 c = record { fits = omega (arith, sizes) }

pub times-up-requires-clause-left : goal.times-up-requires-clause-left
times-up-requires-clause-left c = omega (arith, sizes)

pub times-up-requires-clause-right : goal.times-up-requires-clause-right
times-up-requires-clause-right c = omega (arith, sizes)

pub plus-requires : goal.plus-requires
plus-requires c = record { fits = omega (arith, sizes) }

pub returns : goal.returns
returns c =
    let across = c.args.across in
    let along = c.args.along in
    let w = to_z-of_z w64 c.args.w c.ranges.w in
    let left = handed w64 across.from (omega arith) refl in
    let right = handed w64 across.to (omega arith) refl in
    let below = handed w64 along.from (omega arith) refl in
    let above = handed w64 along.to (omega arith) refl in
    sum_by w64 c.plus.type_inv c.plus.ensures.sum
    (product_by w64 c.times-right.type_inv c.times-right.ensures.product w
    (difference_by w64 c.minus.type_inv c.minus.ensures.difference right left))
    (product_by w64 c.times-up.type_inv c.times-up.ensures.product w
    (difference_by w64 c.minus-2.type_inv c.minus-2.ensures.difference above below))
