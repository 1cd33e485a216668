-- Whole square roots.
use Rattle.std.specs.Prelude.{ℕ, zero, suc, ◌+◌, ◌*◌, ◌/◌, ℤ, pos, unsigned_abs, nat_le, if◌then◌else◌}
use Rattle.scad_num.specs.Number.{one}

-- the root of n, where r is that of n / 4
unfoldable pub root_after : ℕ → ℕ → ℕ
root_after n r = if nat_le ((2 * r + 1) * (2 * r + 1)) n then 2 * r + 1 else 2 * r

unfoldable pub root_in_steps : ℕ → ℕ → ℕ
root_in_steps zero n = 0
root_in_steps (suc steps) n = root_after n (root_in_steps steps (n / 4))

-- the greatest whole number whose square is not above n, for n below 4 ^ 64: two bits of n give one of the root
unfoldable pub root : ℕ → ℕ
root n = root_in_steps 64 n

-- the square root of a number that is not negative, cut to whole millionths (OpenSCAD User Manual, "sqrt")
unfoldable pub sqrt_of : ℤ → ℤ
sqrt_of z = pos (root (unsigned_abs z * one))
