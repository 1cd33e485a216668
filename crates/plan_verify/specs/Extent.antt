-- Upright rectangles.
use Rattle.std.specs.Prelude.{Bool, ◌||◌, ℤ, ◌+ℤ◌, ◌-ℤ◌, ◌≤ℤ◌, int_lt, int_le}
use Rattle.scad_geom.specs.declared.point.Pt.{Pt}
use Rattle.scad_geom.specs.declared.point.Edge.{Edge}
use Rattle.plan_verify.specs.declared.extent.Extent.{Extent}

-- a rectangle holds a point, with its border
pub record HasPoint (x : Extent) (p : Pt) : Type 0 where
  pub left : x.left ≤ℤ p.x
  pub right : p.x ≤ℤ x.right
  pub bottom : x.bottom ≤ℤ p.y
  pub top : p.y ≤ℤ x.top

-- it holds an edge
pub record IsIn (x : Extent) (e : Edge) : Type 0 where
  pub a : HasPoint x e.a
  pub b : HasPoint x e.b

-- a rectangle holds another
pub record Covers (x y : Extent) : Type 0 where
  pub left : x.left ≤ℤ y.left
  pub right : y.right ≤ℤ x.right
  pub bottom : x.bottom ≤ℤ y.bottom
  pub top : y.top ≤ℤ x.top

-- a rectangle holds what lies at most s from a point along both axes
pub record HasRound (s : ℤ) (x : Extent) (p : Pt) : Type 0 where
  pub left : x.left ≤ℤ (p.x -ℤ s)
  pub right : (p.x +ℤ s) ≤ℤ x.right
  pub bottom : x.bottom ≤ℤ (p.y -ℤ s)
  pub top : (p.y +ℤ s) ≤ℤ x.top

-- of both ends of an edge
pub record Reaches (s : ℤ) (x : Extent) (e : Edge) : Type 0 where
  pub a : HasRound s x e.a
  pub b : HasRound s x e.b

-- ---- tests
-- two rectangles have no common point
unfoldable pub is_beyond : Extent → Extent → Bool
is_beyond x y = int_lt x.right y.left || (int_lt y.right x.left || (int_lt x.top y.bottom || int_lt y.top x.bottom))

-- a rectangle lies wholly above the height of a point, at most at it, or not to the right of the point
unfoldable pub is_off : Extent → Pt → Bool
is_off x p = int_le x.top p.y || (int_lt p.y x.bottom || int_le x.right p.x)
