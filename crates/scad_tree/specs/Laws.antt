-- Laws of trees: their set operations, the numbers of their leaves, their layers.
use Rattle.std.specs.Prelude.{◌≡◌, ◌<◌, ◌≤◌, ℕ, Bool, true, false, ◌&&◌, nat_lt, List, Option, Some, None, ℤ}
use Rattle.std.specs.List.{list_all, range_with_len}
use Rattle.scad_geom.specs.declared.shape.Shape.{Shape}
use Rattle.scad_geom.specs.Point.{Point}
use Rattle.scad_geom.specs.Shape.{shape_holds}
use Rattle.scad_solid.specs.declared.triangle.Triangle.{Triangle}
use Rattle.scad_tree.specs.Solid.{Solid}
use Rattle.scad_tree.specs.Normal.{united, intersected, subtracted, has_triangles, is_normal}
use Rattle.scad_tree.specs.Order.{surfaces, leaves}
use Rattle.scad_tree.specs.LeafNumbers.{numbered_of, numbered_from, numbers, surface_at}
use Rattle.scad_tree.specs.Height.{is_below_top, top_of, layers}
use Rattle.scad_tree.specs.Containment.{contained_at}
use Rattle.scad_tree.specs.Member.{holds, any_holds, each_holds, has_items, first_alone_holds}

-- a tree of set operations holds what the operations of its members say: the union what some member holds, the
-- intersection what all hold, where there are any, the difference what the first holds and none of the rest
pub record OperationsHold : Type 0 where
  pub union : (inside : List Triangle → Bool) (ss : List Solid) → holds inside (united ss) ≡ any_holds inside ss
  pub intersection : (inside : List Triangle → Bool) (ss : List Solid) → holds inside (intersected ss) ≡ (has_items ss && each_holds inside ss)
  pub difference : (inside : List Triangle → Bool) (ss : List Solid) → holds inside (subtracted ss) ≡ first_alone_holds inside ss

-- the shape that numbers the leaves of a tree holds what the tree holds; its leaves are numbered from 0 in tree order, each
-- once; each leaf of a tree in normal form has a triangle
pub record ShapesHold : Type 0 where
  pub shapes : (inside : List Triangle → Bool) (s : Solid) (shape : Shape) → numbered_of shape ≡ numbered_from 0 s →
      shape_holds (λ n. inside (surface_at (surfaces s) n)) shape ≡ holds inside s
  pub numbers : (s : Solid) → numbers (numbered_from 0 s) ≡ range_with_len 0 (leaves s)
  pub triangles : (s : Solid) → is_normal s ≡ true → list_all has_triangles (surfaces s) ≡ true

-- a layer lies below a top, where there is one
abbrev pub is_below : Option ℤ → ℕ → ℕ → Bool
is_below None h layer = false
is_below (Some z) h layer = is_below_top z h layer

-- the layers whose plane lies below a tree's top are those whose number is below the count of its layers, and from that
-- number on the tree contains no point
pub record LayersHold : Type 0 where
  pub below : (s : Solid) (h layer : ℕ) → 0 < h → nat_lt layer (layers s h) ≡ is_below (top_of s) h layer
  pub above : (s : Solid) (h layer : ℕ) (p : Point) → 0 < h → layers s h ≤ layer → contained_at layer h p s ≡ false
