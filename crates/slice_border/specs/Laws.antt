-- Laws of the pieces of a border.
use Rattle.std.specs.Prelude.{◌≡◌, Bool, List, pos, ◌<ℤ◌}
use Rattle.scad_geom.specs.declared.level.LeafEdge.{LeafEdge}
use Rattle.scad_geom.specs.declared.shape.Shape.{Shape}
use Rattle.scad_geom.specs.Point.{Point}
use Rattle.scad_geom.specs.Shape.{is_in_by}
use Rattle.scad_geom.specs.Winding.{counted}
use Rattle.slice_pieces.specs.declared.piece.Piece.{Piece}
use Rattle.slice_pieces.specs.Pieces.{wind_pieces}
use Rattle.slice_border.specs.Pieces.{ArePieces}

-- The pieces of a border wind once round each point that the shape holds, hard by the point on each side, and not at all round
-- any other point.
abbrev pub PiecesWindOnce : Type 0
PiecesWindOnce =
    (es : List LeafEdge) (shape : Shape) (pieces : List Piece) → ArePieces es shape pieces → (above right : Bool) (p : Point)
    → pos 0 <ℤ p.d → wind_pieces above right p pieces ≡ counted (is_in_by above right es shape p)
