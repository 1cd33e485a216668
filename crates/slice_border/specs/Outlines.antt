-- The outlines of a shape over the leaves of an edge list: its border pieces, merged, rounded to edges that cancel, and
-- joined.
use Rattle.std.specs.Prelude.{List}
use Rattle.scad_geom.specs.declared.point.Pt.{Pt}
use Rattle.scad_geom.specs.declared.point.Edge.{Edge}
use Rattle.scad_geom.specs.declared.level.LeafEdge.{LeafEdge}
use Rattle.scad_geom.specs.declared.shape.Shape.{Shape}
use Rattle.slice_pieces.specs.declared.piece.Piece.{Piece}
use Rattle.slice_pieces.specs.Merging.{AreMerged}
use Rattle.slice_pieces.specs.Rounding.{rounded_edges}
use Rattle.slice_pieces.specs.Cancelling.{AreCancelled}
use Rattle.slice_loops.specs.Outlines.{AreOutlines}
use Rattle.slice_border.specs.Pieces.{ArePieces}

-- the outlines that pieces make: pieces of one name are merged where two alone meet, the ends are rounded, opposite
-- edges cancel, and those left are joined to closed outlines
pub record AreMadeOf (pieces : List Piece) (outlines : List (List Pt)) : Type 0 where
  pub merged : List Piece
  pub left : List Edge
  pub are_merged : AreMerged pieces merged
  pub are_left : AreCancelled (rounded_edges merged) left
  pub are_outlines : AreOutlines left outlines

-- the outlines that the pieces of a shape's border make
pub record AreOutlinesOf (edges : List LeafEdge) (shape : Shape) (outlines : List (List Pt)) : Type 0 where
  pub pieces : List Piece
  pub are_pieces : ArePieces edges shape pieces
  pub are_made : AreMadeOf pieces outlines
