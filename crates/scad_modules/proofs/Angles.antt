-- Angles in thousandths of a degree.
use Rattle.std.proofs.Common.{◌≤◌, ℤ, pos, negsuc, unsigned_abs, arith}
use Rattle.std.proofs.lemmas.Int.{ints}
use Rattle.scad_num.specs.Number.{most}
use Rattle.scad_num.specs.Rounding.{half_up, half_away}
use Rattle.scad_matrix.specs.Makers.{angle_limit}
use Rattle.scad_modules.specs.Transforms.{angle_of}

pub angle_is_small : (z : ℤ) → unsigned_abs z ≤ most → unsigned_abs (angle_of z) ≤ angle_limit
unfolding half_away half_up
angle_is_small (pos n) small = omega (arith, ints)
angle_is_small (negsuc n) small = omega (arith, ints)
