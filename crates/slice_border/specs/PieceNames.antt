-- What the names of a border's pieces say.
use Rattle.std.specs.Prelude.{List, length}
use Rattle.scad_geom.specs.declared.level.LeafEdge.{LeafEdge}
use Rattle.scad_geom.specs.declared.shape.Shape.{Shape}
use Rattle.slice_bundles.specs.Bundles.{edge_at}
use Rattle.slice_pieces.specs.declared.piece.Piece.{Piece}
use Rattle.slice_pieces.specs.Naming.{AreNamed}
use Rattle.slice_border.specs.Pieces.{ArePieces}

-- ---- the law
-- The pieces of a border are named by the numbers of its edges: none is empty, each lies along the edge of its name,
-- and those of one name don't overlap.
abbrev pub PiecesAreNamed : Type 0
PiecesAreNamed = (es : List LeafEdge) (shape : Shape) (pieces : List Piece) → ArePieces es shape pieces
    → AreNamed (length es) (edge_at es) pieces
