-- The ends of pieces, and that one height has one level.
use Rattle.std.specs.Prelude.{List}
use Rattle.slice_pieces.specs.Pieces.{HaveOneLevel}
use Rattle.scad_geom.specs.declared.level.LeafEdge.{LeafEdge}
use Rattle.scad_geom.specs.declared.shape.Shape.{Shape}
use Rattle.slice_pieces.specs.declared.piece.Piece.{Piece}
use Rattle.slice_border.specs.Pieces.{ArePieces}

-- ---- the law
-- Ends of the pieces of a border that are equal in height have the same level.
abbrev pub HeightsHaveOneLevel : Type 0
HeightsHaveOneLevel = (es : List LeafEdge) (shape : Shape) (pieces : List Piece) → ArePieces es shape pieces
    → HaveOneLevel pieces
