-- The laws of the cosine, for every angle in thousandths of a degree.
use Rattle.std.specs.Prelude.{◌≡◌, ℤ, pos, neg_ℤ, ◌+ℤ◌, ◌-ℤ◌}
use Rattle.scad_cos.specs.Cosine.{cosine}

-- an angle and its opposite have the same cosine
abbrev pub CosineIsEven : Type 0
CosineIsEven = (angle : ℤ) → cosine (neg_ℤ angle) ≡ cosine angle

-- a full turn changes nothing
abbrev pub CosineRepeats : Type 0
CosineRepeats = (angle : ℤ) → cosine (angle +ℤ pos 360000) ≡ cosine angle

-- at 180 degrees less the angle the cosine is the opposite
abbrev pub CosineIsOpposite : Type 0
CosineIsOpposite = (angle : ℤ) → cosine (pos 180000 -ℤ angle) ≡ neg_ℤ (cosine angle)
