-- Spots: points at an exact height.
use Rattle.std.specs.Prelude.{Bool, ℕ, ◌<◌, ◌≤◌, ◌*◌, pos, ◌*ℤ◌, unsigned_abs}
use Rattle.scad_geom.specs.Point.{Point, is_same_point}
use Rattle.scad_geom.specs.Level.{IsLevelWithin}
use Rattle.slice_pieces.specs.declared.piece.Spot.{Spot}

-- the point that a spot stands for
abbrev pub point_of : Spot → Point
point_of s = record { x = s.x; y = s.at.n *ℤ pos s.run; d = s.at.d *ℤ pos s.run }

-- whether two spots stand for one point
abbrev pub is_same_spot : Spot → Spot → Bool
is_same_spot s t = is_same_point (point_of s) (point_of t)

-- a spot on a level within the limit, whose x isn't greater in size than the limit, over a run from 1 to twice the
-- limit
pub record IsSpotWithin (limit : ℕ) (s : Spot) : Type 0 where
  pub level : IsLevelWithin limit s.at
  pub positive : 0 < s.run
  pub run : s.run ≤ 2 * limit
  pub size : unsigned_abs s.x ≤ limit * (s.run * unsigned_abs s.at.d)
