-- What the solids of a ring over itself contain: prisms over any ring, and upright boxes.
use Rattle.std.specs.Prelude.{◌≡◌, ◌≢◌, ◌⊎◌, ◌↔◌, ℕ, List, [], ◌∷◌, map, false, IfSome, IsTrue, ℤ, pos, ◌*ℤ◌, ◌<ℤ◌, ◌≤ℤ◌}
use Rattle.scad_geom.specs.declared.point.Pt.{Pt}
use Rattle.scad_geom.specs.declared.point3.Pt3.{Pt3}
use Rattle.scad_geom.specs.declared.half.Half.TheVariants.{Cell}
use Rattle.scad_geom.specs.Point.{Point}
use Rattle.scad_geom.specs.Segment.{segments}
use Rattle.scad_geom.specs.Half.{doubled, centre}
use Rattle.scad_geom.specs.Loop.{sides}
use Rattle.scad_geom.specs.Winding.{wind}
use Rattle.scad_solid.specs.declared.triangle.Triangle.{Triangle}
use Rattle.scad_solid.specs.Stack.{stacked}
use Rattle.scad_solid.specs.Height.{highest_of}
use Rattle.scad_solid.specs.Cut.{plane_of, contains}

-- a point of the plane at a height
abbrev pub at : ℤ → Pt → Pt3
at z p = record { x = p.x; y = p.y; z = z }

-- the solid of a ring at one height over the same ring at another; either may be the higher
abbrev pub prism : ℤ → ℤ → List Pt → List Triangle
prism upper lower ring = stacked (map (at upper) ring ∷ map (at lower) ring ∷ [])

-- half of a number lies strictly between two coordinates, whichever of them is the greater
abbrev pub IsBetween : ℤ → ℤ → ℤ → Type 0
IsBetween twice a b = (((pos 2 *ℤ a) <ℤ twice) × (twice <ℤ (pos 2 *ℤ b))) ⊎ (((pos 2 *ℤ b) <ℤ twice) × (twice <ℤ (pos 2 *ℤ a)))

-- the outline of an upright rectangle with two opposite corners, from the first of them along x
abbrev pub rectangle : ℤ → ℤ → ℤ → ℤ → List Pt
rectangle x0 y0 x1 y1 = record { x = x0; y = y0 } ∷ record { x = x1; y = y0 } ∷ record { x = x1; y = y1 } ∷ record { x = x0; y = y1 } ∷ []

-- the box with two opposite corners
abbrev pub box : Pt3 → Pt3 → List Triangle
box p q = prism q.z p.z (rectangle p.x p.y q.x q.y)

-- at a layer of the height h, the centre of the cell at (i, j) lies strictly between two corners along each axis
pub record IsCentreBetween (p q : Pt3) (layer h : ℕ) (i j : ℤ) : Type 0 where
  pub across : IsBetween (doubled Cell i) p.x q.x
  pub along : IsBetween (doubled Cell j) p.y q.y
  pub upwards : IsBetween (plane_of layer h) p.z q.z

-- triangles contain exactly the cell centres that lie strictly between two corners along each axis, at any layer
pub record HoldBetween (p q : Pt3) (ts : List Triangle) : Type 0 where
  pub each : (layer h : ℕ) (i j : ℤ) →
      IsTrue (contains (plane_of layer h) ts (centre i j)) ↔ IsCentreBetween p q layer h i j

-- triangles contain a point at exactly those layers whose plane lies strictly between two heights, and there exactly
-- where a ring winds round the point
pub record HoldInside (ring : List Pt) (upper lower : ℤ) (ts : List Triangle) : Type 0 where
  pub each : (layer h : ℕ) (p : Point) → pos 0 <ℤ p.d →
      IsTrue (contains (plane_of layer h) ts p) ↔ (IsBetween (plane_of layer h) upper lower × (wind p (segments (sides ring)) ≢ pos 0))

-- a prism over any ring holds what lies between its ends and inside the ring
pub record PrismsHold : Type 0 where
  pub each : (ring : List Pt) (upper lower : ℤ) → HoldInside ring upper lower (prism upper lower ring)

-- a box holds what lies between its corners; which way its outline runs, and which of the corners is the lower, doesn't
-- matter
pub record BoxesHold : Type 0 where
  pub each : (p q : Pt3) → HoldBetween p q (box p q)

-- triangles contain nothing at a plane that lies at or above all their corners
pub record NothingAbove : Type 0 where
  pub each : (plane : ℤ) (ts : List Triangle) (p : Point) → IfSome (highest_of ts) (λ z. (pos 2 *ℤ z) ≤ℤ plane) → contains plane ts p ≡ false
