-- Rows that the definitions compute.
use Rattle.std.proofs.Common.{◌≡◌, List, [], ◌∷◌, flat_map, ℤ, pos, negsuc, refl, arith}
use Rattle.scad_geom.specs.declared.point.Pt.{Pt}
use Rattle.scad_geom.specs.Point.{whole}
use Rattle.scad_geom.specs.Segment.{segments}
use Rattle.scad_geom.specs.Loop.{sides}
use Rattle.scad_geom.specs.Winding.{wind, is_over, passage_by, side_by, is_beyond, turn}
use Rattle.plan_infill.specs.declared.run.Run.{Run}
use Rattle.plan_infill.specs.Multiple.{IsMultiple}
use Rattle.plan_support.specs.Rows.{Row, runs_at}
use Rattle.plan_support.specs.Spans.{point_at}

-- a square of 2 mm with a corner at the origin
abbrev square : List (List Pt)
square = (point_at (pos 0) (pos 0) ∷ point_at (pos 2000) (pos 0) ∷ point_at (pos 2000) (pos 2000)
    ∷ point_at (pos 0) (pos 2000) ∷ []) ∷ []

abbrev turns : ℤ → ℤ → ℤ
turns x y = wind (whole (point_at x y)) (segments (flat_map sides square))

-- its left and its lower border count, its right and its upper one don't
left_border : turns (pos 0) (pos 1000) ≡ pos 1
unfolding turn is_beyond passage_by side_by is_over
left_border = refl

lower_border : turns (pos 1999) (pos 0) ≡ pos 1
unfolding turn is_beyond passage_by side_by is_over
lower_border = refl

right_border : turns (pos 2000) (pos 1000) ≡ pos 0
unfolding turn is_beyond passage_by side_by is_over
right_border = refl

upper_border : turns (pos 0) (pos 2000) ≡ pos 0
unfolding turn is_beyond passage_by side_by is_over
upper_border = refl

-- lines lie at 0, and above and below it
at_origin : IsMultiple 1000 (pos 0)
at_origin = record { spaced = omega arith; times = pos 0; is = refl }

below_origin : IsMultiple 1000 (negsuc 1999)
below_origin = record { spaced = omega arith; times = negsuc 1; is = refl }

-- rows by their height
abbrev run : ℤ → ℤ → Run
run from to = record { from = from; to = to }

abbrev two_rows : List Row
two_rows = record { y = negsuc 999; runs = run (pos 0) (pos 1999) ∷ [] }
    ∷ record { y = pos 0; runs = run (pos 0) (pos 9) ∷ run (pos 11) (pos 11) ∷ [] } ∷ []

below : runs_at (negsuc 999) two_rows ≡ run (pos 0) (pos 1999) ∷ []
below = refl

level : runs_at (pos 0) two_rows ≡ run (pos 0) (pos 9) ∷ run (pos 11) (pos 11) ∷ []
level = refl

above : runs_at (pos 1000) two_rows ≡ []
above = refl
