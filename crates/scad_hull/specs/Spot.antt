-- Points with their height first.
use Rattle.std.specs.Prelude.{ℤ}
use Rattle.scad_hull.specs.declared.spot.Spot.{Spot}

abbrev pub spot_of : ℤ × ℤ → Spot
spot_of p = record { y = p.1; x = p.0 }

abbrev pub pair_of : Spot → ℤ × ℤ
pair_of s = (s.x, s.y)
