-- Each number is a difference of small numbers.
use Rattle.std.proofs.Common.{◌≡◌, ◌+◌, ◌<◌, ◌≤◌, ◌^◌, ℤ, unsigned_abs, to_z, of_z, refl, ap, arith}
use Rattle.scad_geom.proofs.Casts.{by_cast, cast_size, difference_by, handed}
use Rattle.scad_hull.proofs.turning.between.Goals as goal
use mir.Syntax.{w32, w128}
use mir.Val.{hbits}
use lib.Signed.{mag}

kept : (z : ℤ) → unsigned_abs z ≤ 2 ^ 20 → to_z w32 (of_z w32 z) ≡ z
kept z small = handed w32 z (omega arith) refl

near : (r y z : ℤ) → mag r < 2 ^ hbits w128
    → unsigned_abs r ≤ unsigned_abs (to_z w32 (of_z w32 y)) + unsigned_abs (to_z w32 (of_z w32 z))
    → unsigned_abs y ≤ 2 ^ 20 → unsigned_abs z ≤ 2 ^ 20 → unsigned_abs (to_z w128 (of_z w128 r)) ≤ 2 ^ 21
near r y z fits size first second = omega (
  arith,
  ap unsigned_abs (by_cast w128 {r = r} fits refl),
  cast_size w32 y (omega arith),
  cast_size w32 z (omega arith),
)

pub returns-clause-x : goal.returns-clause-x
returns-clause-x c =
    difference_by w128 c.span.type_inv c.span.ensures.difference (kept c.args.to.x c.requires.to.x)
    (kept c.args.from.x c.requires.from.x)

pub returns-clause-y : goal.returns-clause-y
returns-clause-y c =
    difference_by w128 c.span-2.type_inv c.span-2.ensures.difference (kept c.args.to.y c.requires.to.y)
    (kept c.args.from.y c.requires.from.y)

pub returns-clause-z : goal.returns-clause-z
returns-clause-z c =
    difference_by w128 c.span-3.type_inv c.span-3.ensures.difference (kept c.args.to.z c.requires.to.z)
    (kept c.args.from.z c.requires.from.z)

pub returns-clause-wide_x : goal.returns-clause-wide_x
returns-clause-wide_x c =
    near c.span.result c.args.to.x c.args.from.x c.span.type_inv c.span.ensures.size c.requires.to.x c.requires.from.x

pub returns-clause-wide_y : goal.returns-clause-wide_y
returns-clause-wide_y c =
    near c.span-2.result c.args.to.y c.args.from.y c.span-2.type_inv c.span-2.ensures.size c.requires.to.y
    c.requires.from.y

pub returns-clause-wide_z : goal.returns-clause-wide_z
returns-clause-wide_z c =
    near c.span-3.result c.args.to.z c.args.from.z c.span-3.type_inv c.span-3.ensures.size c.requires.to.z
    c.requires.from.z
