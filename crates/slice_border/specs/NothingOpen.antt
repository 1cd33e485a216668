-- The outlines that pieces make leave nothing open.
use Rattle.std.specs.Prelude.{◌≡◌, ℕ, List, All}
use Rattle.scad_geom.specs.declared.point.Pt.{Pt}
use Rattle.scad_geom.specs.declared.point.Edge.{Edge}
use Rattle.slice_pieces.specs.declared.piece.Piece.{Piece}
use Rattle.slice_pieces.specs.Pieces.{IsPieceWithin}
use Rattle.slice_pieces.specs.Naming.{AreNamed}
use Rattle.slice_border.specs.Outlines.{AreMadeOf}

-- ---- the law
-- Named pieces that don't overlap make one list of outlines.
abbrev pub MadeAreOne : Type 0
MadeAreOne =
    (limit count : ℕ) (edge : ℕ → Edge) (pieces : List Piece) (outlines more : List (List Pt))
    → All (IsPieceWithin limit) pieces
    → AreNamed count edge pieces → AreMadeOf pieces outlines → AreMadeOf pieces more → outlines ≡ more
