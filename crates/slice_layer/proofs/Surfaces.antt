-- Trees whose surfaces bound solids.
use Rattle.std.proofs.Common.{ℕ, List, [], ◌∷◌, ◌≤◌, arith}
use Rattle.std.specs.Prelude.{All, IsTrue, unsigned_abs}
use Rattle.std.proofs.lemmas.List.Elements.{All-weaker, All-from_recursion, recursion_from_All}
use Rattle.scad_geom.specs.Limits.{coordinate_limit, point_limit}
use Rattle.scad_geom.specs.declared.level.LeafEdge.{LeafEdge}
use Rattle.scad_geom.specs.declared.point.Pt.{Pt}
use Rattle.scad_geom.specs.Within.{IsWithin, IsEdgeWithin}
use Rattle.scad_solid.specs.declared.triangle.Triangle.{Triangle}
use Rattle.scad_solid.specs.Solid.{IsSolid}
use Rattle.scad_solid.specs.Surface.{is_closed}
use Rattle.scad_solid.specs.Cut.{cuts_of, plane_of}
use Rattle.scad_tree.specs.Solid.{Solid}
use Rattle.scad_tree.specs.Order.{surfaces}
use Rattle.scad_tree.specs.Sections.{tree_section}
use Rattle.std.specs.List.{AllByRecursion}
use Rattle.winding_laws.specs.Edges.{rounded_edge}
use Rattle.scad_tree.specs.Solids.{AreClosed, AreSolids}
use Rattle.slice_layer.proofs.Ends.{cuts_within}
use Rattle.slice_layer.proofs.Sections.{sections_have}

-- those of solids are closed
pub solids_closed : (s : Solid) → AreSolids s → AreClosed s
solids_closed s h = All-weaker IsSolid (λ ts. IsTrue (is_closed ts)) (λ ts k. k.closed) (surfaces s) h

-- and the edges of their section are within the limit of points
surfaces_within : (layer h : ℕ) (all : List (List Triangle)) → AllByRecursion IsSolid all
    → AllByRecursion (λ ts. AllByRecursion (λ c. IsEdgeWithin point_limit (rounded_edge c)) (cuts_of (plane_of layer h) ts))
    all
surfaces_within layer h [] k = tt
surfaces_within layer h (ts ∷ all) k = (cuts_within (plane_of layer h) ts k.0.in_range, surfaces_within layer h all k.1)

pub section_in_range : (layer h : ℕ) (s : Solid) → AreSolids s
    → All (λ e. IsEdgeWithin point_limit e.edge) (tree_section layer h s)
section_in_range layer h s k =
    All-from_recursion (λ e. IsEdgeWithin point_limit e.edge) (tree_section layer h s)
    (sections_have layer h (IsEdgeWithin point_limit) 0 (surfaces s)
    (surfaces_within layer h (surfaces s) (recursion_from_All IsSolid (surfaces s) k)))

-- so they are within that of coordinates
below : (n : ℕ) → n ≤ point_limit → n ≤ coordinate_limit
below n h = omega (arith, h)

wider : (p : Pt) → IsWithin point_limit p → IsWithin coordinate_limit p
wider p h = record { x = below (unsigned_abs p.x) h.x; y = below (unsigned_abs p.y) h.y }

wider_edge : (e : LeafEdge) → IsEdgeWithin point_limit e.edge → IsEdgeWithin coordinate_limit e.edge
wider_edge e h = record { a = wider e.edge.a h.a; b = wider e.edge.b h.b }

pub section_within : (layer h : ℕ) (s : Solid) → AreSolids s
    → All (λ e. IsEdgeWithin coordinate_limit e.edge) (tree_section layer h s)
section_within layer h s k =
    All-weaker (λ e. IsEdgeWithin point_limit e.edge) (λ e. IsEdgeWithin coordinate_limit e.edge) wider_edge
    (tree_section layer h s)
    (section_in_range layer h s k)
