-- The outline of a square with a corner at the origin, and the cell centres that it winds round.
use Rattle.std.specs.Prelude.{◌≡◌, ◌≢◌, ℕ, ◌*◌, List, [], ◌∷◌, ℤ, pos, ◌<ℤ◌}
use Rattle.scad_geom.specs.declared.point.Pt.{Pt}
use Rattle.scad_geom.specs.declared.half.Half.TheVariants.{Cell}
use Rattle.scad_geom.specs.Segment.{segments}
use Rattle.scad_geom.specs.Half.{doubled, centre}
use Rattle.scad_geom.specs.Loop.{sides}
use Rattle.scad_geom.specs.Winding.{wind}

abbrev corner : ℕ → ℕ → Pt
corner x y = record { x = pos x; y = pos y }

-- the corners of the square from (0, 0) to (side, side), counter-clockwise from the origin
abbrev pub square : ℕ → List Pt
square side = corner 0 0 ∷ corner side 0 ∷ corner side side ∷ corner 0 side ∷ []

-- a coordinate, doubled, lies strictly between 0 and the side
pub record IsStrictlyWithin (side : ℕ) (z : ℤ) : Type 0 where
  pub above : pos 0 <ℤ z
  pub below : z <ℤ pos (2 * side)

-- the centre of the cell at (i, j) lies strictly inside the square
pub record IsCentreInside (side : ℕ) (i j : ℤ) : Type 0 where
  pub across : IsStrictlyWithin side (doubled Cell i)
  pub along : IsStrictlyWithin side (doubled Cell j)

-- the winding number of the square's outline round the centre of the cell at (i, j)
abbrev pub square_wind : ℕ → ℤ → ℤ → ℤ
square_wind side i j = wind (centre i j) (segments (sides (square side)))

-- the outline winds once round each cell centre strictly inside the square, and not at all round any
-- other
pub record SquareWindsOnce : Type 0 where
  pub inside : (side : ℕ) (i j : ℤ) → IsCentreInside side i j → square_wind side i j ≡ pos 1
  pub outside : (side : ℕ) (i j : ℤ) → ¬ IsCentreInside side i j → square_wind side i j ≡ pos 0
  pub only : (side : ℕ) (i j : ℤ) → square_wind side i j ≢ pos 0 → IsCentreInside side i j
