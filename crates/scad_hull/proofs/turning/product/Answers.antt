-- The sum of three products of small numbers.
use Rattle.std.proofs.Common.{◌≡◌, ◌+◌, ◌<◌, ◌≤◌, ◌^◌, ℤ, unsigned_abs, to_z, of_z, refl, arith}
use Rattle.scad_geom.proofs.Casts.{cast_size, handed, product_by, sum_by}
use Rattle.scad_hull.proofs.turning.product.Goals as goal
use mir.Syntax.{w128}

kept : (z : ℤ) → unsigned_abs z ≤ 2 ^ 44 → to_z w128 (of_z w128 z) ≡ z
kept z small = handed w128 z (omega arith) refl

short : (z : ℤ) → unsigned_abs z ≤ 2 ^ 21 → to_z w128 (of_z w128 z) ≡ z
short z small = handed w128 z (omega arith) refl

pub returns : goal.returns
returns c =
    let n = c.args.normal.now in
    sum_by w128 c.plus-2.type_inv c.plus-2.ensures.sum
    (product_by w128 c.times-across.type_inv c.times-across.ensures.product (kept n.x c.requires.normal.x)
    (short c.args.way.x c.requires.x))
    (sum_by w128 c.plus.type_inv c.plus.ensures.sum
    (product_by w128 c.times-along.type_inv c.times-along.ensures.product (kept n.y c.requires.normal.y)
    (short c.args.way.y c.requires.y))
    (product_by w128 c.times-upwards.type_inv c.times-upwards.ensures.product (kept n.z c.requires.normal.z)
    (short c.args.way.z c.requires.z)))

wide : (z : ℤ) → unsigned_abs z ≤ 2 ^ 44 → unsigned_abs (to_z w128 (of_z w128 z)) ≤ 2 ^ 44
wide z small = omega (arith, cast_size w128 z (omega arith))

near : (z : ℤ) → unsigned_abs z ≤ 2 ^ 21 → unsigned_abs (to_z w128 (of_z w128 z)) ≤ 2 ^ 21
near z small = omega (arith, cast_size w128 z (omega arith))

-- the size of two products, and of two numbers of that size
together : (y z : ℤ) → unsigned_abs y ≤ 2 ^ 65 → unsigned_abs z ≤ 2 ^ 65
    → unsigned_abs (to_z w128 (of_z w128 y)) + unsigned_abs (to_z w128 (of_z w128 z)) ≤ 2 ^ 66
together y z first second = omega (arith, cast_size w128 y (omega arith), cast_size w128 z (omega arith))

room : (y z : ℤ) → unsigned_abs y ≤ 2 ^ 66 → unsigned_abs z ≤ 2 ^ 66
    → unsigned_abs (to_z w128 (of_z w128 y)) + unsigned_abs (to_z w128 (of_z w128 z)) < 2 ^ 127
room y z first second = omega (arith, cast_size w128 y (omega arith), cast_size w128 z (omega arith))

pub times-across-requires : goal.times-across-requires
times-across-requires c = record {
  left = wide c.args.normal.now.x c.requires.normal.x;
  right = near c.args.way.x c.requires.x;
  fits = omega arith;
}

pub times-along-requires : goal.times-along-requires
times-along-requires c = record {
  left = wide c.args.normal.now.y c.requires.normal.y;
  right = near c.args.way.y c.requires.y;
  fits = omega arith;
}

pub times-upwards-requires : goal.times-upwards-requires
times-upwards-requires c = record {
  left = wide c.args.normal.now.z c.requires.normal.z;
  right = near c.args.way.z c.requires.z;
  fits = omega arith;
}

pub plus-requires : goal.plus-requires
plus-requires c =
    let along = c.times-along.ensures.size in
    let upwards = c.times-upwards.ensures.size in
    record { fits = room c.times-along.result c.times-upwards.result (omega (arith, along)) (omega (arith, upwards)) }

pub plus-requires-2 : goal.plus-requires-2
plus-requires-2 c =
    let across = c.times-across.ensures.size in
    let both = together c.times-along.result c.times-upwards.result c.times-along.ensures.size
    c.times-upwards.ensures.size in
    let sum = c.plus.ensures.size in
    record { fits = room c.times-across.result c.plus.result (omega (arith, across)) (omega (arith, both, sum)) }
