-- Points of a segment near to given points.
use Rattle.std.specs.Prelude.{◌≡◌, ◌⊎◌, false, List, ℤ, pos, ◌*ℤ◌, ◌<ℤ◌}
use Rattle.scad_geom.specs.Point.{Point, is_same_point}
use Rattle.scad_geom.specs.Winding.{side_by}
use Rattle.winding_laws.specs.Region.{HalfPlane, box}
use Rattle.winding_laws.specs.Nearness.{IsPoint, IsNear}
use Rattle.winding_laws.specs.Points.{IsOn, IsBetween}

-- a point of the segment from a to b to which p is near
pub record HasNear (region : List HalfPlane) (a b p : Point) : Type 0 where
  pub point : Point
  pub positive : IsPoint point
  pub on : IsOn a b point
  pub near : IsNear region p point

-- p lies on the segment from a to b but isn't an end of it: it is a mean by weights above 0
pub record IsAmid (a b p : Point) : Type 0 where
  pub on : IsOn a b p
  pub first : pos 0 <ℤ on.s
  pub second : pos 0 <ℤ on.t

-- at one height
abbrev pub AreLevel : Point → Point → Type 0
AreLevel p q = p.y *ℤ q.d ≡ q.y *ℤ p.d

-- a point amid a segment at most 1 / n along both axes from p
pub record HasAmid (n : ℤ) (a b p : Point) : Type 0 where
  pub point : Point
  pub positive : IsPoint point
  pub amid : IsAmid a b point
  pub near : IsNear (box n (pos 1)) p point

-- ---- the laws
-- Where the ends of a segment are moved within a region, each of its points is near to a point of the segment as it
-- was.
abbrev pub PointsFollow : Type 0
PointsFollow =
    (region : List HalfPlane) (a b c d p : Point) → IsPoint a → IsPoint b → IsPoint c → IsPoint d → IsPoint p
    → IsNear region c a → IsNear region d b
    → IsOn c d p → HasNear region a b p

-- Of three points on one line, in whatever order, each point between the first and the last lies between the first and
-- the
-- middle one or between that and the last.
abbrev pub LinesAreAll : Type 0
LinesAreAll = (a m b p : Point) → IsPoint a → IsPoint m → IsPoint b → side_by m a b ≡ pos 0 → IsOn a b p
    → IsOn a m p ⊎ IsOn m b p

-- As near as wanted to each point of a segment with a length lies one that isn't an end.
abbrev pub AmidIsAnywhere : Type 0
AmidIsAnywhere = (n : ℤ) → pos 0 <ℤ n → (a b p : Point) → IsPoint a → IsPoint b → IsPoint p → IsOn a b p
    → HasAmid n a b p

-- A point amid a segment with a length lies on its line, strictly between the ends.
abbrev pub AmidIsBetween : Type 0
AmidIsBetween =
    (a b p : Point) → IsPoint a → IsPoint b → is_same_point a b ≡ false → IsAmid a b p
    → (side_by p a b ≡ pos 0) × (IsBetween (λ q. q.y) a p b
    ⊎ (AreLevel a p × AreLevel p b × IsBetween (λ q. q.x) a p b))
