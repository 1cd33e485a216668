-- What the hull's definitions say together.
use Rattle.std.specs.List.{Contains}
use Rattle.std.specs.Prelude.{◌≡◌, IsTrue, ◌≢◌, ◌↔◌, ◌≤◌, List, length, map, Some, Ok, ℤ, pos, ◌<ℤ◌, All}
use Rattle.scad_geom.specs.declared.point.Pt.{Pt}
use Rattle.scad_geom.specs.declared.point3.Pt3.{Pt3}
use Rattle.scad_geom.specs.Loop.{sides}
use Rattle.scad_geom.specs.Point.{Point}
use Rattle.scad_geom.specs.Segment.{Segment, segments}
use Rattle.scad_geom.specs.Winding.{side_by, wind}
use Rattle.scad_solid.specs.declared.triangle.Triangle.{Triangle}
use Rattle.scad_solid.specs.Surface.{is_closed}
use Rattle.scad_hull.specs.Plane.{IsBefore}
use Rattle.scad_hull.specs.Ring.{IsConvexRing}
use Rattle.scad_hull.specs.Distinct.{distinct}
use Rattle.scad_hull.specs.Space.{space_cmp}
use Rattle.scad_hull.specs.Faces.{faces_of, hull_of, IsFace}
use Rattle.scad_hull.specs.Flat.{flat_cmp, flat_left, point_count_limit, ring_hull_of}

-- p lies below q, or at its height to its left
abbrev pub IsFlatBefore : ℤ × ℤ → ℤ × ℤ → Type 0
IsFlatBefore = IsBefore (λ p. p.0) (λ p. p.1)

-- where points have a ring as their hull, it is the convex ring round them
pub record RingsAreConvex : Type 0 where
  pub each : (points ring : List (ℤ × ℤ)) → ring_hull_of points ≡ Ok (Some ring)
      → IsConvexRing flat_left IsFlatBefore points ring

-- points that have a convex ring, and aren't too many, have it as their hull: they have no other
pub record RingsAreOne : Type 0 where
  pub each : (points ring : List (ℤ × ℤ)) → IsConvexRing flat_left IsFlatBefore points ring
      → length (distinct flat_cmp points) ≤ point_count_limit
      → ring_hull_of points ≡ Ok (Some ring)

-- a pair as a point of an outline
abbrev pub outline_point : ℤ × ℤ → Pt
outline_point p = record { x = p.0; y = p.1 }

-- the sides of a ring
abbrev pub ring_sides : List (ℤ × ℤ) → List Segment
ring_sides ring = segments (sides (map outline_point ring))

-- q lies on the line of a segment, or to its left
abbrev pub IsOnLine : Point → Segment → Type 0
IsOnLine q s = side_by q s.from s.to ≡ pos 0

abbrev pub IsLeftOf : Point → Segment → Type 0
IsLeftOf q s = pos 0 <ℤ side_by q s.from s.to

-- the ring that points have as their hull winds round a point on the line of none of its sides exactly where the point
-- lies to the left of
-- them all
pub record RingsHold : Type 0 where
  pub each : (points ring : List (ℤ × ℤ)) → ring_hull_of points ≡ Ok (Some ring) → (q : Point)
      → pos 0 <ℤ q.d → All (λ s. IsOnLine q s → ⊥) (ring_sides ring)
      → (wind q (ring_sides ring) ≢ pos 0) ↔ All (IsLeftOf q) (ring_sides ring)

-- the faces that are listed of points of space are the faces of them, and all of these
pub record FacesAreConvex : Type 0 where
  pub each : (points : List Pt3) → All (IsFace (distinct space_cmp points)) (faces_of (distinct space_cmp points))
  pub all : (points face : List Pt3) → IsFace (distinct space_cmp points) face
      → Contains (faces_of (distinct space_cmp points)) face

-- the solid that points have as their hull is closed
pub record HullsClose : Type 0 where
  pub each : (points : List Pt3) (ts : List Triangle) → hull_of points ≡ Ok (Some ts) → IsTrue (is_closed ts)
