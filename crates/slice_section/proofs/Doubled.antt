-- Twice a height as calls are given it.
use Rattle.std.proofs.Common.{◌≡◌, ◌≤◌, ◌^◌, ℤ, pos, ◌*ℤ◌, FitsSigned, unsigned_abs, to_z, of_z, ap, arith}
use Rattle.std.proofs.lemmas.Int.{ints}
use mir.Syntax.{w32, w128}
use Rattle.scad_geom.proofs.Casts.{doubled_size, handed, read_widened}

abbrev pub twice : ℤ → ℤ
twice z = pos 2 *ℤ to_z w128 (of_z w128 (to_z w32 (of_z w32 z)))

pub size_of : (z : ℤ) → FitsSigned w32 z → unsigned_abs z ≤ 2 ^ 31
size_of z fits = omega (arith, ints)

pub twice_kept : (z : ℤ) → FitsSigned w32 z → to_z w128 (of_z w128 (twice z)) ≡ pos 2 *ℤ z
twice_kept z fits =
    let wide = read_widened z fits in
    let same = ap unsigned_abs wide in
    let size = size_of z fits in
    let double = doubled_size (to_z w128 (of_z w128 (to_z w32 (of_z w32 z)))) in
    handed w128 (twice z) (omega (arith, same, size, double)) (ap (λ (y : ℤ). pos 2 *ℤ y) wide)
