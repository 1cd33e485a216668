-- That the pieces of a border lie on its edges, each on the edge of its name.
use Rattle.std.specs.Prelude.{List, All}
use Rattle.scad_geom.specs.declared.point.Edge.{Edge}
use Rattle.scad_geom.specs.declared.level.LeafEdge.{LeafEdge}
use Rattle.scad_geom.specs.declared.shape.Shape.{Shape}
use Rattle.scad_geom.specs.Point.{whole}
use Rattle.winding_laws.specs.Points.{IsOn}
use Rattle.slice_bundles.specs.Bundles.{edge_at}
use Rattle.slice_pieces.specs.declared.piece.Piece.{Piece}
use Rattle.slice_pieces.specs.Spots.{point_of}
use Rattle.slice_border.specs.Pieces.{ArePieces}

-- both ends of a piece are points of an edge
pub record EndsLieOn (e : Edge) (q : Piece) : Type 0 where
  pub from : IsOn (whole e.a) (whole e.b) (point_of q.from)
  pub to : IsOn (whole e.a) (whole e.b) (point_of q.to)

-- ---- the law
-- Both ends of each piece of a border are points of the edge of its name.
abbrev pub PiecesLieOnEdges : Type 0
PiecesLieOnEdges =
    (es : List LeafEdge) (shape : Shape) (pieces : List Piece) → ArePieces es shape pieces
    → All (λ q. EndsLieOn (edge_at es q.edge) q) pieces
