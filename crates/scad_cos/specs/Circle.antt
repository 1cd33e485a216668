-- How many sides stand for a circle, and where its vertices are (OpenSCAD User Manual, "$fa, $fs and $fn").
use Rattle.std.specs.Prelude.{ℕ, ◌+◌, ◌*◌, ◌/◌, min, max, ℤ, pos, int_lt, unsigned_abs, if◌then◌else◌}
use Rattle.std.specs.Int.{div_ceil}
use Rattle.scad_num.specs.Number.{one}
use Rattle.scad_num.specs.Rounding.{half_up}

-- the least angle or side that counts: 0.01
abbrev pub least_counted : ℕ
least_counted = 10000

-- the least radius of a circle with more than the fewest sides: 0.001
abbrev pub least_radius : ℕ
least_radius = 1000

-- the fewest sides of any circle
abbrev pub fewest : ℕ
fewest = 3

-- the fewest sides of a circle whose number of sides isn't given
abbrev pub fewest_by_steps : ℕ
fewest_by_steps = 5

-- the most sides of any circle: as many as the greatest number says
abbrev pub fragment_limit : ℕ
fragment_limit = 1000000000

-- the circumference of the circle of radius 1, in millionths
abbrev pub circumference : ℕ
circumference = 6283185

-- a least angle or a least side as a divisor
unfoldable pub least_step : ℤ → ℕ
least_step z = if int_lt z (pos least_counted) then least_counted else unsigned_abs z

-- 360 by the least angle or the circumference by the least side, which of them is less, but 5 at least
unfoldable pub fragments_by_steps : ℕ → ℕ → ℕ → ℕ
fragments_by_steps r fa fs =
    let by_angle = half_up (360 * one * one) fa in
    let by_size = half_up (half_up (circumference * r) one * one) fs in
    div_ceil (max (min by_angle by_size) (fewest_by_steps * one)) one

-- the sides of a circle with radius r under `$fn`, `$fa` and `$fs`, all in millionths
unfoldable pub fragments_of : ℤ → ℤ → ℤ → ℤ → ℕ
fragments_of r fn fa fs =
    if int_lt r (pos least_radius) then fewest
    else (if int_lt (pos 0) fn then max fewest (unsigned_abs fn / one)
    else fragments_by_steps (unsigned_abs r) (least_step fa) (least_step fs))

-- the angle of vertex i of n, in thousandths of a degree
unfoldable pub vertex_angle_of : ℕ → ℕ → ℕ
vertex_angle_of i n = (360000 * i + n / 2) / n
