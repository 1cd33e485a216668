-- The edges of a wall's shape are within the limit of a layer's coordinates.
use Rattle.std.proofs.Common.{ℕ, ◌+◌, ◌≤◌, List, [], ◌∷◌, arith, ℤ}
use Rattle.std.specs.Prelude.{All, unsigned_abs}
use Rattle.std.specs.List.{AllByRecursion}
use Rattle.std.proofs.lemmas.List.Elements.{recursion_from_All, All-from_recursion}
use Rattle.scad_base.proofs.Lists.{AllByRecursion-append}
use Rattle.scad_geom.specs.declared.point.Edge.{Edge}
use Rattle.scad_geom.specs.declared.level.LeafEdge.{LeafEdge}
use Rattle.scad_geom.specs.Limits.{point_limit, coordinate_limit}
use Rattle.scad_geom.specs.Within.{IsEdgeWithin}
use Rattle.scad_geom.specs.Loop.{sides}
use Rattle.plan_sides.proofs.Within.{sides_within}
use Rattle.scad_ring.specs.Limits.{distance_limit}
use Rattle.scad_ring.specs.Corners.{corners_of}
use Rattle.scad_ring.proofs.Shapes.{corners_of-within}
use Rattle.plan_walls.specs.Walls.{of_leaf, rings_from, with_rings}

module _ (c : ℕ) (most : c ≤ distance_limit) where
  abbrev AreWithin : List LeafEdge → Type 0
  AreWithin es = AllByRecursion (λ e. IsEdgeWithin coordinate_limit e.edge) es

  leaf_within : (k : ℕ) (es : List Edge) → AllByRecursion (IsEdgeWithin coordinate_limit) es → AreWithin (of_leaf k es)
  leaf_within k [] h = tt
  leaf_within k (e ∷ es) h = (h.0, leaf_within k es h.1)

  ring_within : (e : Edge) → IsEdgeWithin point_limit e
      → AllByRecursion (IsEdgeWithin coordinate_limit) (sides (corners_of c e))
  ring_within e h = sides_within coordinate_limit (corners_of c e) (corners_of-within c most e h)

  rings_within : (k : ℕ) (es : List Edge) → AllByRecursion (IsEdgeWithin point_limit) es → AreWithin (rings_from c k es)
  rings_within k [] h = tt
  rings_within k (e ∷ es) h =
      AllByRecursion-append (λ e. IsEdgeWithin coordinate_limit e.edge) (of_leaf k (sides (corners_of c e)))
      (rings_from c (k + 1) es)
      (leaf_within k (sides (corners_of c e)) (ring_within e h.0)) (rings_within (k + 1) es h.1)

  wider : (z : ℤ) → unsigned_abs z ≤ point_limit → unsigned_abs z ≤ coordinate_limit
  wider z h = omega (arith, h)

  all_wider : (es : List Edge) → AllByRecursion (IsEdgeWithin point_limit) es
      → AllByRecursion (IsEdgeWithin coordinate_limit) es
  all_wider [] h = tt
  all_wider (e ∷ es) h =
      let a = h.0.a in
      let b = h.0.b in (
        record {
          a = record { x = wider e.a.x a.x; y = wider e.a.y a.y };
          b =
              record { x = wider e.b.x b.x; y = wider e.b.y b.y };
        },
        all_wider es h.1,
      )

  pub edges_within : (es : List Edge) → All (IsEdgeWithin point_limit) es
      → All (λ e. IsEdgeWithin coordinate_limit e.edge) (with_rings c es)
  edges_within es h =
      let r = recursion_from_All (IsEdgeWithin point_limit) es h in
      All-from_recursion (λ e. IsEdgeWithin coordinate_limit e.edge) (with_rings c es)
      (AllByRecursion-append (λ e. IsEdgeWithin coordinate_limit e.edge) (of_leaf 0 es) (rings_from c 1 es)
      (leaf_within 0 es (all_wider es r)) (rings_within 1 es r))
