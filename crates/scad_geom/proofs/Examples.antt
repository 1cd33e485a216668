-- Winding numbers and areas that the definitions compute.
use Rattle.std.proofs.Common.{◌≡◌, List, [], ◌∷◌, ℤ, pos, negsuc, refl}
use Rattle.scad_geom.specs.declared.point.Pt.{Pt}
use Rattle.scad_geom.specs.declared.half.Half.TheVariants.{Whole}
use Rattle.scad_geom.specs.Loop.{sides}
use Rattle.scad_geom.specs.Area.{twice_area}
use Rattle.scad_geom.specs.Segment.{segments}
use Rattle.scad_geom.specs.Half.{meant, centre}
use Rattle.scad_geom.specs.Winding.{wind, is_over, passage_by, side_by, is_beyond, turn}

abbrev at : ℤ → ℤ → Pt
at x y = record { x = x; y = y }

-- a square of side 10, counter-clockwise
abbrev square_10 : List Pt
square_10 = at (pos 0) (pos 0) ∷ at (pos 10) (pos 0) ∷ at (pos 10) (pos 10) ∷ at (pos 0) (pos 10) ∷ []

abbrev clockwise_10 : List Pt
clockwise_10 = at (pos 0) (pos 0) ∷ at (pos 0) (pos 10) ∷ at (pos 10) (pos 10) ∷ at (pos 10) (pos 0) ∷ []

area-square : twice_area square_10 ≡ pos 200
area-square = refl

area-clockwise : twice_area clockwise_10 ≡ negsuc 199
area-clockwise = refl

area-empty : twice_area [] ≡ pos 0
area-empty = refl

area-two_points : twice_area (at (pos 3) (pos 1) ∷ at (negsuc 6) (pos 5) ∷ []) ≡ pos 0
area-two_points = refl

wind-inside : wind (centre (pos 9) (pos 0)) (segments (sides square_10)) ≡ pos 1
unfolding turn is_beyond passage_by side_by is_over
wind-inside = refl

wind-right_of : wind (centre (pos 10) (pos 0)) (segments (sides square_10)) ≡ pos 0
unfolding turn is_beyond passage_by side_by is_over
wind-right_of = refl

wind-left_of : wind (centre (negsuc 0) (pos 5)) (segments (sides square_10)) ≡ pos 0
unfolding turn is_beyond passage_by side_by is_over
wind-left_of = refl

wind-clockwise : wind (centre (pos 9) (pos 0)) (segments (sides clockwise_10)) ≡ negsuc 0
unfolding turn is_beyond passage_by side_by is_over
wind-clockwise = refl

-- on the border the lower and left sides count as inside, the upper and right ones as outside
wind-lower_left_corner : wind (meant Whole (at (pos 0) (pos 0))) (segments (sides square_10)) ≡ pos 1
unfolding turn is_beyond passage_by side_by is_over
wind-lower_left_corner = refl

wind-right_side : wind (meant Whole (at (pos 10) (pos 5))) (segments (sides square_10)) ≡ pos 0
unfolding turn is_beyond passage_by side_by is_over
wind-right_side = refl

wind-upper_side : wind (meant Whole (at (pos 5) (pos 10))) (segments (sides square_10)) ≡ pos 0
unfolding turn is_beyond passage_by side_by is_over
wind-upper_side = refl
