-- Outlines have walls at each distance: the shape of a wall is made of operations on two members.
use Rattle.std.proofs.Common.{◌≡◌, ℕ, zero, suc, ◌+◌, Bool, not, ◌&&◌, ◌||◌, List, length, refl, ap, ◌∙◌, flat_map}
use Rattle.scad_geom.specs.declared.point.Edge.{Edge}
use Rattle.scad_geom.specs.declared.level.LeafEdge.{LeafEdge}
use Rattle.scad_geom.specs.declared.shape.Shape.{Shape, Empty, Leaf}
use Rattle.scad_geom.specs.Loop.{sides}
use Rattle.scad_geom.specs.Shape.{shape_holds}
use Rattle.outline_laws.proofs.Pairs.{either, without, either_holds, first_holds}
use Rattle.outline_laws.proofs.SomeOutlines.{HasShapeOutlines, shape_outlines}
use Rattle.plan_sides.proofs.Closure.{sides_balanced}
use Rattle.plan_walls.specs.Walls.{with_rings, some_inside, IsFirstWithout}
use Rattle.plan_walls.proofs.Leaves.{leaves_balanced}
use Rattle.plan_layer.specs.There.{WallsAreThere}

-- some of n leaves, numbered from k on
abbrev some_leaf : ℕ → ℕ → Shape
some_leaf k zero = Empty
some_leaf k (suc n) = either (Leaf k) (some_leaf (k + 1) n)

some_leaf_holds : (inside : ℕ → Bool) (k n : ℕ) → shape_holds inside (some_leaf k n) ≡ some_inside inside k n
some_leaf_holds inside k zero = refl
some_leaf_holds inside k (suc n) =
    either_holds inside (Leaf k) (some_leaf (k + 1) n)
    ∙ ap (λ (b : Bool). inside k || b) (some_leaf_holds inside (k + 1) n)

abbrev wall_shape : ℕ → Shape
wall_shape n = without (Leaf 0) (some_leaf 1 n)

is_first_without : (n : ℕ) → IsFirstWithout n (wall_shape n)
is_first_without n inside =
    first_holds inside (Leaf 0) (some_leaf 1 n) ∙ ap (λ (b : Bool). inside 0 && not b) (some_leaf_holds inside 1 n)

pub walls_are_there : WallsAreThere
walls_are_there c outlines =
    let around : List Edge = flat_map sides outlines in
    let es : List LeafEdge = with_rings c around in
    let o : HasShapeOutlines es (wall_shape (length around)) =
    shape_outlines es (wall_shape (length around)) (leaves_balanced c around (sides_balanced outlines)) in
    record {
      loops = o.outlines;
      are_walls = record {
        shape = wall_shape (length around);
        first_without = is_first_without (length around);
        are_outlines = o.are_outlines;
      };
    }
