-- Laws of merging and cancelling: they leave nothing open but the order.
use Rattle.std.specs.Prelude.{ℕ, List, All}
use Rattle.std.specs.List.Sorted.{IsPermutation}
use Rattle.scad_geom.specs.declared.point.Edge.{Edge}
use Rattle.slice_pieces.specs.declared.piece.Piece.{Piece}
use Rattle.slice_pieces.specs.Pieces.{IsPieceWithin}
use Rattle.slice_pieces.specs.Naming.{AreNamed}
use Rattle.slice_pieces.specs.Merging.{AreMerged}
use Rattle.slice_pieces.specs.Cancelling.{AreCancelled}

-- of the same edges, in whatever order, the same are left where opposite ones cancel
abbrev pub CancelledAreOne : Type 0
CancelledAreOne = (edges others left more : List Edge) → IsPermutation edges others → AreCancelled edges left
    → AreCancelled others more → IsPermutation left more

-- named pieces that don't overlap have one list of merged pieces, in whatever order
abbrev pub MergedAreOne : Type 0
MergedAreOne =
    (limit count : ℕ) (edge : ℕ → Edge) (pieces others merged more : List Piece)
    → All (IsPieceWithin limit) pieces → AreNamed count edge pieces
    → IsPermutation pieces others → AreMerged pieces merged → AreMerged others more → IsPermutation merged more
