-- That outlines leave nothing open: the pieces of a border are the same one by one, and a shape has one list of outlines.
use Rattle.std.specs.Prelude.{◌≡◌, List, All}
use Rattle.scad_geom.specs.declared.point.Pt.{Pt}
use Rattle.scad_geom.specs.declared.level.LeafEdge.{LeafEdge}
use Rattle.scad_geom.specs.declared.shape.Shape.{Shape}
use Rattle.scad_geom.specs.Limits.{coordinate_limit}
use Rattle.scad_geom.specs.Within.{IsEdgeWithin}
use Rattle.slice_pieces.specs.declared.piece.Piece.{Piece}
use Rattle.slice_border.specs.Pieces.{ArePieces}
use Rattle.slice_border.specs.Outlines.{AreOutlinesOf}
use Rattle.outline_laws.specs.Sameness.{ArePiecesSame, HoldAlike}

-- ---- the laws
-- Two lists of pieces of a border, of one shape or of two that hold alike, are the same one by one.
abbrev pub PiecesAreSame : Type 0
PiecesAreSame =
    (es : List LeafEdge) (s t : Shape) → HoldAlike es s t → (qs rs : List Piece)
    → ArePieces es s qs → ArePieces es t rs → ArePiecesSame qs rs

-- A shape over edges within the limit of coordinates has one list of outlines.
abbrev pub OutlinesAreOne : Type 0
OutlinesAreOne =
    (es : List LeafEdge) → All (λ e. IsEdgeWithin coordinate_limit e.edge) es → (shape : Shape) (a b : List (List Pt))
    → AreOutlinesOf es shape a → AreOutlinesOf es shape b → a ≡ b

-- Two shapes that hold alike have the same.
abbrev pub AlikeHaveOneOutlines : Type 0
AlikeHaveOneOutlines =
    (es : List LeafEdge) → All (λ e. IsEdgeWithin coordinate_limit e.edge) es → (s t : Shape) → HoldAlike es s t
    → (a b : List (List Pt))
    → AreOutlinesOf es s a → AreOutlinesOf es t b → a ≡ b
