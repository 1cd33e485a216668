-- The edges that ways give: each between its rounded ends, from its start to its end, where these differ.
use Rattle.std.specs.Prelude.{cond, ◌≡◌, true, Bool, List, [], ◌∷◌, ◌++◌}
use Rattle.scad_geom.specs.declared.point.Pt.{Pt}
use Rattle.scad_geom.specs.declared.point.Edge.{Edge}
use Rattle.scad_geom.specs.Point.{is_same_point}
use Rattle.winding_laws.specs.Edges.{rounded, has_length}
use Rattle.winding_laws.specs.Nearness.{IsPoint}
use Rattle.slice_pieces.specs.Spots.{point_of}
use Rattle.slice_pieces.specs.Rounding.{rounded_edges}
use Rattle.slice_pieces.specs.declared.piece.Spot.{Spot}
use Rattle.sweep_laws.specs.Ways.{Way, pieces_of}

-- the edge between two whole points, one way or the other
abbrev pub edge_between : Bool → Pt → Pt → Edge
edge_between forward p q = record { a = cond forward p q; b = cond forward q p }

-- what a way gives, by its rounded ends
abbrev pub edges_between : Bool → Pt → Pt → List Edge
edges_between forward p q = cond (has_length (edge_between forward p q)) (edge_between forward p q ∷ []) []

-- ---- the laws
-- The edges of ways one after another.
pub record WaysGiveEdges : Type 0 where
  pub none : rounded_edges (pieces_of []) ≡ []
  pub one : (w : Way) → rounded_edges (pieces_of (w ∷ [])) ≡ edges_between w.forward (rounded (point_of w.near))
      (rounded (point_of w.far))
  pub more : (vs ws : List Way) → rounded_edges (pieces_of (vs ++ ws))
      ≡ rounded_edges (pieces_of vs) ++ rounded_edges (pieces_of ws)

-- Spots that stand for one point round to one point.
abbrev pub SameSpotsRoundAlike : Type 0
SameSpotsRoundAlike = (s t : Spot) → IsPoint (point_of s) → IsPoint (point_of t)
    → is_same_point (point_of s) (point_of t) ≡ true
    → rounded (point_of s) ≡ rounded (point_of t)
