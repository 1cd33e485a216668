-- The difference of two products of gaps.
use Rattle.std.proofs.Common.{◌+◌, ◌<◌, ◌≤◌, ◌^◌, ℤ, unsigned_abs, to_z, of_z, arith}
use Rattle.scad_geom.proofs.Casts.{by_cast, cast_size, difference_by, product_by}
use Rattle.scad_hull.proofs.plane.left.Goals as goal
use mir.Syntax.{w128}

near : (z : ℤ) → unsigned_abs z ≤ 2 ^ 51 → unsigned_abs (to_z w128 (of_z w128 z)) ≤ 2 ^ 51
near z small = omega (arith, cast_size w128 z (omega arith))

room : (y z : ℤ) → unsigned_abs y ≤ 2 ^ 102 → unsigned_abs z ≤ 2 ^ 102
    → unsigned_abs (to_z w128 (of_z w128 y)) + unsigned_abs (to_z w128 (of_z w128 z)) < 2 ^ 127
room y z first second = omega (arith, cast_size w128 y (omega arith), cast_size w128 z (omega arith))

pub times-ahead-requires : goal.times-ahead-requires
times-ahead-requires c = record {
  left = near c.gap.result c.gap.ensures.size;
  right = near c.gap-2.result c.gap-2.ensures.size;
  fits = omega arith;
}

pub times-aside-requires : goal.times-aside-requires
times-aside-requires c = record {
  left = near c.gap-3.result c.gap-3.ensures.size;
  right = near c.gap-4.result c.gap-4.ensures.size;
  fits = omega arith;
}

pub minus-requires : goal.minus-requires
minus-requires c = record {
  fits = room c.times-ahead.result c.times-aside.result c.times-ahead.ensures.size c.times-aside.ensures.size;
}

pub returns : goal.returns
returns c =
    difference_by w128 c.minus.type_inv c.minus.ensures.difference
    (product_by w128 c.times-ahead.type_inv c.times-ahead.ensures.product
    (by_cast w128 c.gap.type_inv c.gap.ensures.value) (by_cast w128 c.gap-2.type_inv c.gap-2.ensures.value))
    (product_by w128 c.times-aside.type_inv c.times-aside.ensures.product
    (by_cast w128 c.gap-3.type_inv c.gap-3.ensures.value) (by_cast w128 c.gap-4.type_inv c.gap-4.ensures.value))
