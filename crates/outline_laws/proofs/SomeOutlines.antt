-- A shape over balanced leaves has outlines.
use Rattle.std.proofs.Common.{List, map, refl}
use Rattle.std.specs.Prelude.{All}
use Rattle.std.proofs.lemmas.List.Elements.{All-map, All-weaker}
use Rattle.scad_geom.specs.declared.point.Pt.{Pt}
use Rattle.scad_geom.specs.declared.point.Edge.{Edge}
use Rattle.scad_geom.specs.declared.level.LeafEdge.{LeafEdge}
use Rattle.scad_geom.specs.declared.shape.Shape.{Shape}
use Rattle.scad_geom.specs.Segment.{Segment, segments}
use Rattle.scad_geom.specs.Balance.{IsBalanced}
use Rattle.scad_geom.specs.Leaves.{AreLeavesBalanced}
use Rattle.winding_laws.specs.Nearness.{IsProper}
use Rattle.winding_laws.specs.Edges.{rounded_edge}
use Rattle.winding_laws.proofs.Rounding.{rounding_keeps_balance}
use Rattle.winding_laws.proofs.Lengths.{lengths_keep_balance}
use Rattle.slice_pieces.specs.declared.piece.Piece.{Piece}
use Rattle.slice_pieces.specs.Pieces.{way_of, ways_of, ArePiecesBalanced}
use Rattle.slice_pieces.specs.Rounding.{rounded_edges}
use Rattle.slice_pieces.proofs.Balance.{merged_balanced, left_balanced}
use Rattle.slice_loops.specs.Outlines.{outlines_of}
use Rattle.slice_border.specs.Outlines.{AreMadeOf, AreOutlinesOf}
use Rattle.slice_border.proofs.BalanceLevels.{pieces_are_balanced}
use Rattle.slice_border.proofs.Membership.{pieces_are_placed}
use Rattle.slice_border.proofs.PieceWinding.{IsPlaced, placed_proper, merged_placed}
use Rattle.outline_laws.proofs.SomePieces.{HasPieces, pieces_of}
use Rattle.outline_laws.proofs.MergeTotal.{HasMerged, pieces_merged}
use Rattle.outline_laws.proofs.CancelTotal.{HasCancelled, edges_cancelled}
use Rattle.outline_laws.proofs.SomeLoops.{HasDrawing, balanced_drawn}

abbrev AreProper : List Piece → Type 0
AreProper qs = All (λ q. IsProper (way_of q)) qs

module _ (es : List LeafEdge) where
  are_proper : (qs : List Piece) → All (IsPlaced es) qs → AreProper qs
  are_proper qs h = All-weaker (IsPlaced es) (λ q. IsProper (way_of q)) (placed_proper es) qs h

  -- ---- the outlines that pieces make
  record HasMade (pieces : List Piece) : Type 0 where
    outlines : List (List Pt)
    are_made : AreMadeOf pieces outlines

  module _ (pieces : List Piece) (placed : All (IsPlaced es) pieces) (b : ArePiecesBalanced pieces) where
    abbrev merged : HasMerged pieces
    merged = pieces_merged pieces

    abbrev rounded : List Edge
    rounded = rounded_edges merged.merged

    rounded_balanced : IsBalanced (segments rounded)
    rounded_balanced =
        let ways : List Segment = ways_of merged.merged in
        let proper : AreProper merged.merged =
        are_proper merged.merged (merged_placed es pieces merged.merged merged.are_merged placed) in
        let balanced = merged_balanced pieces merged.merged merged.are_merged (are_proper pieces placed) b in
        lengths_keep_balance (map rounded_edge ways)
        (rounding_keeps_balance ways (All-map IsProper way_of merged.merged proper) balanced)

    made : HasMade pieces
    made =
        let c : HasCancelled rounded = edges_cancelled rounded in
        let d : HasDrawing c.left = balanced_drawn c.left (left_balanced rounded c.left c.cancelled rounded_balanced) in
        record {
          outlines = outlines_of d.loops;
          are_made = record {
            merged = merged.merged;
            left = c.left;
            are_merged = merged.are_merged;
            are_left = c.cancelled;
            are_outlines = record { loops = d.loops; drawn = d.drawn; kept = refl };
          };
        }

-- ---- those of a border's pieces
pub record HasShapeOutlines (es : List LeafEdge) (shape : Shape) : Type 0 where
  pub outlines : List (List Pt)
  pub are_outlines : AreOutlinesOf es shape outlines

pub shape_outlines : (es : List LeafEdge) (shape : Shape) → AreLeavesBalanced es → HasShapeOutlines es shape
shape_outlines es shape b =
    let p : HasPieces es shape = pieces_of es shape in
    let placed : All (IsPlaced es) p.pieces = pieces_are_placed es shape p.pieces p.are_pieces in
    let m : HasMade es p.pieces = made es p.pieces placed (pieces_are_balanced es shape p.pieces b p.are_pieces) in
    record {
      outlines = m.outlines;
      are_outlines = record { pieces = p.pieces; are_pieces = p.are_pieces; are_made = m.are_made };
    }
