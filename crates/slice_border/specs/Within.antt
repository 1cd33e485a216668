-- The ends of pieces are in range.
use Rattle.std.specs.Prelude.{List, ℕ, ◌<◌, All}
use Rattle.slice_pieces.specs.Pieces.{IsPieceWithin}
use Rattle.scad_geom.specs.declared.level.LeafEdge.{LeafEdge}
use Rattle.scad_geom.specs.declared.shape.Shape.{Shape}
use Rattle.scad_geom.specs.Within.{IsEdgeWithin}
use Rattle.scad_geom.specs.Level.{IsLevelWithin}
use Rattle.slice_pieces.specs.declared.piece.Piece.{Piece}
use Rattle.slice_border.specs.Pieces.{ArePieces}

-- ---- the law
-- Where the edges of a border and its levels are within a limit above 0, so are the ends of its pieces.
abbrev pub SpotsAreWithin : Type 0
SpotsAreWithin =
    (limit : ℕ) → 0 < limit → (es : List LeafEdge) → All (λ e. IsEdgeWithin limit e.edge) es
    → (shape : Shape) (pieces : List Piece)
    → (h : ArePieces es shape pieces) → All (IsLevelWithin limit) h.levels → All (IsPieceWithin limit) pieces
