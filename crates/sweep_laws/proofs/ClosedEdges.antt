-- The edges of merged pieces are closed, where the edges of each leaf are.
use Rattle.std.proofs.Common.{map}
use Rattle.std.proofs.lemmas.List.Elements.{All-map, All-weaker}
use Rattle.std.proofs.lemmas.List.Sorted.{IsPermutation-map}
use Rattle.scad_geom.specs.Segment.{segment_of, segments}
use Rattle.winding_laws.specs.Nearness.{IsProper}
use Rattle.winding_laws.specs.Edges.{rounded_edge}
use Rattle.winding_laws.proofs.Lengths.{lengths_keep_balance}
use Rattle.winding_laws.proofs.Order.{order_keeps_balance}
use Rattle.winding_laws.proofs.Rounding.{rounding_keeps_balance}
use Rattle.slice_pieces.specs.Pieces.{way_of, ways_of}
use Rattle.slice_pieces.specs.Rounding.{rounded_edges}
use Rattle.slice_pieces.proofs.Balance.{merged_balanced}
use Rattle.slice_border.proofs.BalanceLevels.{pieces_are_balanced}
use Rattle.slice_border.proofs.PieceWinding.{IsPlaced, placed_proper, merged_placed}
use Rattle.slice_border.proofs.Membership.{pieces_are_placed}
use Rattle.sweep_laws.specs.Sweeps.{MergedEdgesAreBalanced}

pub merged_edges_are_balanced : MergedEdgesAreBalanced
merged_edges_are_balanced es shape given b m =
    let placed = pieces_are_placed es shape m.pieces m.are_pieces in
    let proper = All-weaker (IsPlaced es) (λ q. IsProper (way_of q)) (placed_proper es) in
    let closed = merged_balanced m.pieces m.merged m.are_merged (proper m.pieces placed)
    (pieces_are_balanced es shape m.pieces b m.are_pieces) in
    let all = All-map IsProper way_of m.merged (proper m.merged
    (merged_placed es m.pieces m.merged m.are_merged placed)) in
    order_keeps_balance (segments (rounded_edges m.merged)) (segments given)
    (IsPermutation-map segment_of (rounded_edges m.merged) given m.are_given)
    (lengths_keep_balance (map rounded_edge (ways_of m.merged)) (rounding_keeps_balance (ways_of m.merged) all closed))
