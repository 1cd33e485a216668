-- Border points, and the points inside a piece.
use Rattle.std.specs.Prelude.{Bool, true, false, List, pos, ◌≡◌, ◌<ℤ◌, All}
use Rattle.slice_pieces.specs.Inside.{IsInside}
use Rattle.scad_geom.specs.declared.level.LeafEdge.{LeafEdge}
use Rattle.scad_geom.specs.declared.shape.Shape.{Shape}
use Rattle.scad_geom.specs.Point.{Point}
use Rattle.scad_geom.specs.Shape.{is_in_by}
use Rattle.slice_pieces.specs.declared.piece.Piece.{Piece}
use Rattle.slice_pieces.specs.Spots.{point_of}
use Rattle.slice_border.specs.Pieces.{ArePieces}

-- a point hard by which the shape holds on one of the four sides and not on another
pub record IsBorderPoint (edges : List LeafEdge) (shape : Shape) (p : Point) : Type 0 where
  pub held_above : Bool
  pub held_right : Bool
  pub held : is_in_by held_above held_right edges shape p ≡ true
  pub missed_above : Bool
  pub missed_right : Bool
  pub missed : is_in_by missed_above missed_right edges shape p ≡ false

-- ---- the law
-- Each point of a piece but its ends is a border point.
abbrev pub PiecesAreBorder : Type 0
PiecesAreBorder =
    (es : List LeafEdge) (shape : Shape) (pieces : List Piece) → ArePieces es shape pieces → (p : Point)
    → pos 0 <ℤ p.d
    → All (λ q. IsInside (point_of q.from) (point_of q.to) p → IsBorderPoint es shape p) pieces
