-- Borders that are closed: at each point as many pieces start as end.
use Rattle.std.specs.Prelude.{List}
use Rattle.slice_pieces.specs.Pieces.{ArePiecesBalanced}
use Rattle.scad_geom.specs.Leaves.{AreLeavesBalanced}
use Rattle.scad_geom.specs.declared.level.LeafEdge.{LeafEdge}
use Rattle.scad_geom.specs.declared.shape.Shape.{Shape}
use Rattle.slice_pieces.specs.declared.piece.Piece.{Piece}
use Rattle.slice_border.specs.Pieces.{ArePieces}

-- ---- the law
-- Where the edges of each leaf are balanced, so are the pieces of a border.
abbrev pub BordersAreBalanced : Type 0
BordersAreBalanced =
    (es : List LeafEdge) (shape : Shape) (pieces : List Piece) → AreLeavesBalanced es → ArePieces es shape pieces
    → ArePiecesBalanced pieces
