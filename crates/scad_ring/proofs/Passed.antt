-- Numbers that are handed on are those that were meant, where they are small enough.
use Rattle.std.proofs.Common.{◌≡◌, ◌+◌, ◌^◌, ◌<◌, ℤ, ◌+ℤ◌, ◌-ℤ◌, unsigned_abs, to_z, of_z, arith}
use Rattle.std.proofs.lemmas.Int.{ints, to_z-of_z}
use Rattle.scad_geom.proofs.Casts.{fits_by_size}
use mir.Syntax.{Width}
use mir.Val.{hbits}

pub same : (w : Width) (z : ℤ) → unsigned_abs z < 2 ^ hbits w → to_z w (of_z w z) ≡ z
same w z small = to_z-of_z w z (fits_by_size w z small)

pub same_sum : (w : Width) (a b : ℤ) → unsigned_abs a + unsigned_abs b < 2 ^ hbits w
    → to_z w (of_z w (to_z w (of_z w a) +ℤ to_z w (of_z w b))) ≡ a +ℤ b
same_sum w a b small =
    let left = same w a (omega arith) in
    let right = same w b (omega arith) in
    rw (left, right) (same w (a +ℤ b) (omega (arith, ints)))

pub same_difference : (w : Width) (a b : ℤ) → unsigned_abs a + unsigned_abs b < 2 ^ hbits w
    → to_z w (of_z w (to_z w (of_z w a) -ℤ to_z w (of_z w b))) ≡ a -ℤ b
same_difference w a b small =
    let left = same w a (omega arith) in
    let right = same w b (omega arith) in
    rw (left, right) (same w (a -ℤ b) (omega (arith, ints)))
