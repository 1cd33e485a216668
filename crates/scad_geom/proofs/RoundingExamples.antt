-- Roundings that the definition computes: to the nearest whole number, and a half downwards.
use Rattle.std.proofs.Common.{◌≡◌, pos, negsuc, refl}
use Rattle.scad_geom.specs.Rounding.{half_down}

half_down-half : half_down (pos 1) (pos 2) ≡ pos 0
unfolding half_down
half_down-half = refl

half_down-above_half : half_down (pos 501) (pos 1000) ≡ pos 1
unfolding half_down
half_down-above_half = refl

half_down-negative_half : half_down (negsuc 0) (pos 2) ≡ negsuc 0
unfolding half_down
half_down-negative_half = refl

half_down-negative_third : half_down (negsuc 0) (pos 3) ≡ pos 0
unfolding half_down
half_down-negative_third = refl

half_down-whole : half_down (pos 2000) (pos 2) ≡ pos 1000
unfolding half_down
half_down-whole = refl
