-- How often a five-pointed star and the widest edge wind round points, as the definition computes it.
use Rattle.std.proofs.Common.{◌≡◌, List, [], ◌∷◌, ℤ, pos, negsuc, refl}
use Rattle.scad_geom.specs.declared.point.Pt.{Pt}
use Rattle.scad_geom.specs.declared.point.Edge.{Edge}
use Rattle.scad_geom.specs.declared.half.Half.{Half}
use Rattle.scad_geom.specs.declared.half.Half.TheVariants.{Whole, Cell}
use Rattle.scad_geom.specs.Segment.{segments}
use Rattle.scad_geom.specs.Half.{meant}
use Rattle.scad_geom.specs.Loop.{sides}
use Rattle.scad_geom.specs.Winding.{wind, is_over, passage_by, side_by, is_beyond, turn}

abbrev at : ℤ → ℤ → Pt
at x y = record { x = x; y = y }

abbrev round : List Edge → Half → ℤ → ℤ → ℤ
round edges half x y = wind (meant half (at x y)) (segments edges)

abbrev star : List Edge
star =
    sides (at (pos 0) (pos 10) ∷ at (negsuc 5) (negsuc 7) ∷ at (pos 9) (pos 3) ∷ at (negsuc 8) (pos 3) ∷ at (pos 6) (negsuc 7) ∷ [])

star_winds_twice_round_its_middle :
    round star Whole (pos 0) (pos 0) ∷ round star Cell (pos 0) (pos 0) ∷ round star Whole (pos 0) (pos 9)
    ∷ round star Cell (pos 0) (pos 9) ∷ round star Whole (negsuc 5) (negsuc 7) ∷ round star Cell (negsuc 5) (negsuc 7)
    ∷ round star Whole (pos 2) (pos 3) ∷ round star Cell (pos 2) (pos 3) ∷ round star Whole (pos 9) (pos 3) ∷ []
    ≡ pos 2 ∷ pos 2 ∷ pos 1 ∷ pos 0 ∷ pos 0 ∷ pos 1 ∷ pos 1 ∷ pos 0 ∷ pos 0 ∷ []
unfolding turn is_beyond passage_by side_by is_over
star_winds_twice_round_its_middle = refl

abbrev widest : List Edge
widest = record { a = at (negsuc 1099999) (negsuc 1099999); b = at (pos 1100000) (pos 1100000) } ∷ []

widest_edge_counts_to_its_left :
    round widest Whole (pos 1099999) (pos 1099999) ∷ round widest Cell (pos 1099998) (pos 1099999)
    ∷ round widest Cell (pos 1099999) (pos 1099999) ∷ round widest Whole (negsuc 1099999) (negsuc 1099999)
    ∷ round widest Whole (negsuc 1099999) (negsuc 1099998) ∷ round widest Whole (negsuc 1099999) (pos 1100000) ∷ []
    ≡ pos 0 ∷ pos 1 ∷ pos 0 ∷ pos 0 ∷ pos 1 ∷ pos 0 ∷ []
unfolding turn is_beyond passage_by side_by is_over
widest_edge_counts_to_its_left = refl
