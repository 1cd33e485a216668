-- Rings, corner by corner: round a point, round edges of sixteen directions, round the sides of a hole, and where the
-- octagon's corners fall together.
use Rattle.std.proofs.Common.{◌≡◌, ℕ, [], ◌∷◌, refl, pos}
use Rattle.scad_geom.specs.declared.point.Pt.{Pt}
use Rattle.scad_geom.specs.declared.point.Edge.{Edge}
use Rattle.scad_ring.specs.Corners.{at, direction_of, corners_of}
use Rattle.scad_ring.specs.Octagon.{slant, reach}

abbrev point : ℕ → ℕ → Pt
point x y = at (pos x) (pos y)

abbrev edge : ℕ → ℕ → ℕ → ℕ → Edge
edge ax ay bx by = record { a = point ax ay; b = point bx by }

-- ---- the octagon's measures
slant_of_nothing : slant 2 ≡ 0
slant_of_nothing = refl

slant_of_three : slant 3 ≡ 1
slant_of_three = refl

slant_of_half_a_line : slant 225 ≡ 93
slant_of_half_a_line = refl

reach_of_half_a_line : reach 225 ≡ 318
reach_of_half_a_line = refl

-- ---- rings
round_a_point : corners_of 225 (edge 1000 1000 1000 1000)
    ≡ point 907 775 ∷ point 1093 775 ∷ point 1225 907 ∷ point 1225 1093 ∷ point 1093 1225 ∷ point 907 1225
    ∷ point 775 1093 ∷ point 775 907 ∷ []
unfolding direction_of
round_a_point = refl

towards_east : corners_of 225 (edge 1000 1000 1400 1000)
    ≡ point 907 775 ∷ point 1493 775 ∷ point 1625 907 ∷ point 1625 1093 ∷ point 1493 1225 ∷ point 907 1225
    ∷ point 775 1093 ∷ point 775 907 ∷ []
unfolding direction_of
towards_east = refl

towards_east_by_north : corners_of 225 (edge 1000 1000 1400 1100)
    ≡ point 907 775 ∷ point 1093 775 ∷ point 1493 875 ∷ point 1625 1007 ∷ point 1625 1193 ∷ point 1493 1325
    ∷ point 1307 1325 ∷ point 907 1225 ∷ point 775 1093 ∷ point 775 907 ∷ []
unfolding direction_of
towards_east_by_north = refl

towards_north_east : corners_of 225 (edge 1000 1000 1400 1400)
    ≡ point 907 775 ∷ point 1093 775 ∷ point 1625 1307 ∷ point 1625 1493 ∷ point 1493 1625 ∷ point 1307 1625
    ∷ point 775 1093 ∷ point 775 907 ∷ []
unfolding direction_of
towards_north_east = refl

towards_north_by_east : corners_of 225 (edge 1000 1000 1100 1400)
    ≡ point 907 775 ∷ point 1093 775 ∷ point 1225 907 ∷ point 1325 1307 ∷ point 1325 1493 ∷ point 1193 1625
    ∷ point 1007 1625 ∷ point 875 1493 ∷ point 775 1093 ∷ point 775 907 ∷ []
unfolding direction_of
towards_north_by_east = refl

towards_north : corners_of 225 (edge 1000 1000 1000 1400)
    ≡ point 907 775 ∷ point 1093 775 ∷ point 1225 907 ∷ point 1225 1493 ∷ point 1093 1625 ∷ point 907 1625
    ∷ point 775 1493 ∷ point 775 907 ∷ []
unfolding direction_of
towards_north = refl

towards_north_by_west : corners_of 225 (edge 1000 1000 900 1400)
    ≡ point 907 775 ∷ point 1093 775 ∷ point 1225 907 ∷ point 1225 1093 ∷ point 1125 1493 ∷ point 993 1625
    ∷ point 807 1625 ∷ point 675 1493 ∷ point 675 1307 ∷ point 775 907 ∷ []
unfolding direction_of
towards_north_by_west = refl

towards_north_west : corners_of 225 (edge 1000 1000 600 1400)
    ≡ point 907 775 ∷ point 1093 775 ∷ point 1225 907 ∷ point 1225 1093 ∷ point 693 1625 ∷ point 507 1625
    ∷ point 375 1493 ∷ point 375 1307 ∷ []
unfolding direction_of
towards_north_west = refl

towards_west_by_north : corners_of 225 (edge 1000 1000 600 1100)
    ≡ point 907 775 ∷ point 1093 775 ∷ point 1225 907 ∷ point 1225 1093 ∷ point 1093 1225 ∷ point 693 1325
    ∷ point 507 1325 ∷ point 375 1193 ∷ point 375 1007 ∷ point 507 875 ∷ []
unfolding direction_of
towards_west_by_north = refl

towards_west : corners_of 225 (edge 1000 1000 600 1000)
    ≡ point 507 775 ∷ point 1093 775 ∷ point 1225 907 ∷ point 1225 1093 ∷ point 1093 1225 ∷ point 507 1225
    ∷ point 375 1093 ∷ point 375 907 ∷ []
unfolding direction_of
towards_west = refl

towards_west_by_south : corners_of 225 (edge 1000 1000 600 900)
    ≡ point 507 675 ∷ point 693 675 ∷ point 1093 775 ∷ point 1225 907 ∷ point 1225 1093 ∷ point 1093 1225
    ∷ point 907 1225 ∷ point 507 1125 ∷ point 375 993 ∷ point 375 807 ∷ []
unfolding direction_of
towards_west_by_south = refl

towards_south_west : corners_of 225 (edge 1000 1000 600 600)
    ≡ point 507 375 ∷ point 693 375 ∷ point 1225 907 ∷ point 1225 1093 ∷ point 1093 1225 ∷ point 907 1225
    ∷ point 375 693 ∷ point 375 507 ∷ []
unfolding direction_of
towards_south_west = refl

towards_south_by_west : corners_of 225 (edge 1000 1000 900 600)
    ≡ point 807 375 ∷ point 993 375 ∷ point 1125 507 ∷ point 1225 907 ∷ point 1225 1093 ∷ point 1093 1225
    ∷ point 907 1225 ∷ point 775 1093 ∷ point 675 693 ∷ point 675 507 ∷ []
unfolding direction_of
towards_south_by_west = refl

towards_south : corners_of 225 (edge 1000 1000 1000 600)
    ≡ point 907 375 ∷ point 1093 375 ∷ point 1225 507 ∷ point 1225 1093 ∷ point 1093 1225 ∷ point 907 1225
    ∷ point 775 1093 ∷ point 775 507 ∷ []
unfolding direction_of
towards_south = refl

towards_south_by_east : corners_of 225 (edge 1000 1000 1100 600)
    ≡ point 1007 375 ∷ point 1193 375 ∷ point 1325 507 ∷ point 1325 693 ∷ point 1225 1093 ∷ point 1093 1225
    ∷ point 907 1225 ∷ point 775 1093 ∷ point 775 907 ∷ point 875 507 ∷ []
unfolding direction_of
towards_south_by_east = refl

towards_south_east : corners_of 225 (edge 1000 1000 1400 600)
    ≡ point 1307 375 ∷ point 1493 375 ∷ point 1625 507 ∷ point 1625 693 ∷ point 1093 1225 ∷ point 907 1225
    ∷ point 775 1093 ∷ point 775 907 ∷ []
unfolding direction_of
towards_south_east = refl

towards_east_by_south : corners_of 225 (edge 1000 1000 1400 900)
    ≡ point 1307 675 ∷ point 1493 675 ∷ point 1625 807 ∷ point 1625 993 ∷ point 1493 1125 ∷ point 1093 1225
    ∷ point 907 1225 ∷ point 775 1093 ∷ point 775 907 ∷ point 907 775 ∷ []
unfolding direction_of
towards_east_by_south = refl

left_side_of_a_hole : corners_of 225 (edge 4000 4000 4000 6000)
    ≡ point 3907 3775 ∷ point 4093 3775 ∷ point 4225 3907 ∷ point 4225 6093 ∷ point 4093 6225
    ∷ point 3907 6225
    ∷ point 3775 6093 ∷ point 3775 3907 ∷ []
unfolding direction_of
left_side_of_a_hole = refl

upper_side_of_a_hole : corners_of 225 (edge 4000 6000 6000 6000)
    ≡ point 3907 5775 ∷ point 6093 5775 ∷ point 6225 5907 ∷ point 6225 6093 ∷ point 6093 6225
    ∷ point 3907 6225
    ∷ point 3775 6093 ∷ point 3775 5907 ∷ []
unfolding direction_of
upper_side_of_a_hole = refl

right_side_of_a_hole : corners_of 225 (edge 6000 6000 6000 4000)
    ≡ point 5907 3775 ∷ point 6093 3775 ∷ point 6225 3907 ∷ point 6225 6093 ∷ point 6093 6225
    ∷ point 5907 6225
    ∷ point 5775 6093 ∷ point 5775 3907 ∷ []
unfolding direction_of
right_side_of_a_hole = refl

lower_side_of_a_hole : corners_of 225 (edge 6000 4000 4000 4000)
    ≡ point 3907 3775 ∷ point 6093 3775 ∷ point 6225 3907 ∷ point 6225 4093 ∷ point 6093 4225
    ∷ point 3907 4225
    ∷ point 3775 4093 ∷ point 3775 3907 ∷ []
unfolding direction_of
lower_side_of_a_hole = refl

-- ---- where the corners fall together
small_round_a_point : corners_of 2 (edge 100 100 100 100)
    ≡ point 100 98 ∷ point 102 100 ∷ point 100 102 ∷ point 98 100 ∷ []
unfolding direction_of
small_round_a_point = refl

small_towards_east : corners_of 2 (edge 100 100 140 100)
    ≡ point 100 98 ∷ point 140 98 ∷ point 142 100 ∷ point 140 102 ∷ point 100 102 ∷ point 98 100 ∷ []
unfolding direction_of
small_towards_east = refl

small_towards_east_by_north : corners_of 2 (edge 100 100 140 110)
    ≡ point 100 98 ∷ point 140 108 ∷ point 142 110 ∷ point 140 112 ∷ point 100 102 ∷ point 98 100 ∷ []
unfolding direction_of
small_towards_east_by_north = refl

small_towards_north_east : corners_of 2 (edge 100 100 140 140)
    ≡ point 100 98 ∷ point 142 140 ∷ point 140 142 ∷ point 98 100 ∷ []
unfolding direction_of
small_towards_north_east = refl

small_towards_north_by_east : corners_of 2 (edge 100 100 110 140)
    ≡ point 100 98 ∷ point 102 100 ∷ point 112 140 ∷ point 110 142 ∷ point 108 140 ∷ point 98 100 ∷ []
unfolding direction_of
small_towards_north_by_east = refl

small_towards_north : corners_of 2 (edge 100 100 100 140)
    ≡ point 100 98 ∷ point 102 100 ∷ point 102 140 ∷ point 100 142 ∷ point 98 140 ∷ point 98 100 ∷ []
unfolding direction_of
small_towards_north = refl

small_towards_north_by_west : corners_of 2 (edge 100 100 90 140)
    ≡ point 100 98 ∷ point 102 100 ∷ point 92 140 ∷ point 90 142 ∷ point 88 140 ∷ point 98 100 ∷ []
unfolding direction_of
small_towards_north_by_west = refl

small_towards_north_west : corners_of 2 (edge 100 100 60 140)
    ≡ point 100 98 ∷ point 102 100 ∷ point 60 142 ∷ point 58 140 ∷ []
unfolding direction_of
small_towards_north_west = refl

small_towards_west_by_north : corners_of 2 (edge 100 100 60 110)
    ≡ point 100 98 ∷ point 102 100 ∷ point 100 102 ∷ point 60 112 ∷ point 58 110 ∷ point 60 108 ∷ []
unfolding direction_of
small_towards_west_by_north = refl

small_towards_west : corners_of 2 (edge 100 100 60 100)
    ≡ point 60 98 ∷ point 100 98 ∷ point 102 100 ∷ point 100 102 ∷ point 60 102 ∷ point 58 100 ∷ []
unfolding direction_of
small_towards_west = refl
