-- What hulls contain.
use Rattle.std.specs.Prelude.{◌≡◌, ◌↔◌, ◌<◌, ℕ, IsTrue, All, List, length, Some, Ok, ℤ, pos, ◌+ℤ◌, ◌-ℤ◌, ◌*ℤ◌, ◌<ℤ◌}
use Rattle.std.specs.List.{list_all}
use Rattle.scad_geom.specs.declared.point3.Pt3.{Pt3}
use Rattle.scad_geom.specs.Point.{Point}
use Rattle.scad_geom.specs.PointRange.{is_in_range}
use Rattle.scad_solid.specs.declared.triangle.Triangle.{Triangle}
use Rattle.scad_solid.specs.Cut.{plane_of, contains}
use Rattle.scad_solid.specs.Solid.{IsSolid}
use Rattle.scad_hull.specs.declared.turning.Normal.{Normal}
use Rattle.scad_hull.specs.Space.{normal_of}
use Rattle.scad_hull.specs.Faces.{hull_of}

-- above 0 where a point at half the height of a plane lies on the side of a triangle to which its normal points, 0
-- where it lies in the triangle's plane: twice its denominator times the depth
abbrev pub depth_at : ℤ → Point → Pt3 → Normal → ℤ
depth_at plane q a n =
    pos 2 *ℤ (n.x *ℤ (q.x -ℤ a.x *ℤ q.d) +ℤ n.y *ℤ (q.y -ℤ a.y *ℤ q.d)) +ℤ (n.z *ℤ (plane -ℤ pos 2 *ℤ a.z)) *ℤ q.d

-- the same of a triangle that goes clockwise as seen from outside: above 0 on its inner side
abbrev pub inner_at : ℤ → Point → Triangle → ℤ
inner_at plane q t = depth_at plane q t.a (normal_of t.a t.b t.c)

-- the solid that points have as their hull contains, at a layer's plane, a point in the plane of none of its triangles
-- exactly where it lies on the inner side of each
pub record HullsHold : Type 0 where
  pub each : (points : List Pt3) (ts : List Triangle) → hull_of points ≡ Ok (Some ts) → (layer h : ℕ) (q : Point) → pos 0 <ℤ q.d
      → All (λ t. inner_at (plane_of layer h) q t ≡ pos 0 → ⊥) ts
      → IsTrue (contains (plane_of layer h) ts q) ↔ All (λ t. pos 0 <ℤ inner_at (plane_of layer h) q t) ts

-- what points in range have as their hull is a solid, and it has triangles
pub record HullsAreSolids : Type 0 where
  pub each : (points : List Pt3) (ts : List Triangle) → IsTrue (list_all is_in_range points) → hull_of points ≡ Ok (Some ts) → IsSolid ts
  pub some : (points : List Pt3) (ts : List Triangle) → hull_of points ≡ Ok (Some ts) → 0 < length ts
