-- The centres of cells: the plain form of what a shape holds there.
use Rattle.std.specs.Prelude.{Bool, not, List, ℕ, ℤ, ◌≡◌, true}
use Rattle.scad_geom.specs.Segment.{segments}
use Rattle.scad_geom.specs.Half.{centre}
use Rattle.scad_geom.specs.declared.level.LeafEdge.{LeafEdge}
use Rattle.scad_geom.specs.declared.shape.Shape.{Shape}
use Rattle.scad_geom.specs.Winding.{wind, counted}
use Rattle.scad_geom.specs.Shape.{shape_holds, is_in}
use Rattle.scad_geom.specs.Sign.{is_zero}
use Rattle.slice_pieces.specs.declared.piece.Piece.{Piece}
use Rattle.slice_pieces.specs.Pieces.{wind_pieces}
use Rattle.slice_border.specs.Pieces.{ArePieces}
use Rattle.scad_geom.specs.Leaves.{edges_of}

-- whether a leaf holds the centre of the cell at (i, j): the winding number of its edges round it isn't 0
abbrev pub leaf_holds : List LeafEdge → ℤ → ℤ → ℕ → Bool
leaf_holds edges i j leaf = not (is_zero (wind (centre i j) (segments (edges_of leaf edges))))

-- whether a shape over the leaves of an edge list holds that centre
abbrev pub holds_centre : List LeafEdge → Shape → ℤ → ℤ → Bool
holds_centre edges shape i j = shape_holds (leaf_holds edges i j) shape

-- round each cell centre that the shape holds the pieces wind once, and round no other
abbrev pub AreCentresWound : List LeafEdge → Shape → List Piece → Type 0
AreCentresWound edges shape pieces = (i j : ℤ)
    → wind_pieces true true (centre i j) pieces ≡ counted (holds_centre edges shape i j)

-- ---- the laws
-- Round each cell centre that the shape holds the pieces of its border wind once, and round no other.
abbrev pub CentresAreWoundOnce : Type 0
CentresAreWoundOnce = (es : List LeafEdge) (shape : Shape) (pieces : List Piece) → ArePieces es shape pieces
    → AreCentresWound es shape pieces

-- At a cell centre membership by directions is that by plain winding numbers.
abbrev pub CentresAreHeld : Type 0
CentresAreHeld = (es : List LeafEdge) (shape : Shape) (i j : ℤ)
    → is_in es shape (centre i j) ≡ holds_centre es shape i j
