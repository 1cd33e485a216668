-- The edges that ways give.
use Rattle.std.proofs.Common.{◌≡◌, Bool, true, false, cond, [], ◌∷◌, map, refl, sym, ap, ◌∙◌}
use Rattle.std.specs.Prelude.{filter}
use Rattle.std.proofs.lemmas.List.{map-append}
use Rattle.std.proofs.lemmas.List.Elements.{filter-append}
use Rattle.scad_geom.specs.declared.point.Edge.{Edge}
use Rattle.scad_geom.proofs.Balance.{same_whole, same_place-is}
use Rattle.winding_laws.specs.Edges.{rounded, rounded_edge, has_length}
use Rattle.winding_laws.proofs.Rounding.{rounded_same}
use Rattle.slice_pieces.specs.declared.piece.Spot.{Spot}
use Rattle.slice_pieces.specs.Spots.{point_of}
use Rattle.slice_pieces.specs.Pieces.{way_of, ways_of}
use Rattle.sweep_laws.specs.Ways.{Way, piece_of, pieces_of}
use Rattle.sweep_laws.specs.Edges.{edge_between, WaysGiveEdges, SameSpotsRoundAlike}

one_edge : (w : Way) → rounded_edge (way_of (piece_of w))
    ≡ edge_between w.forward (rounded (point_of w.near)) (rounded (point_of w.far))
one_edge w = by_flag w.forward w.near w.far
  where
    by_flag : (b : Bool) (s t : Spot)
        → rounded_edge (record { from = point_of (cond b s t); to = point_of (cond b t s) })
        ≡ edge_between b (rounded (point_of s)) (rounded (point_of t))
    by_flag true s t = refl
    by_flag false s t = refl

pub ways_give_edges : WaysGiveEdges
ways_give_edges = record {
  none = refl;
  one = λ w. ap (λ (e : Edge). cond (has_length e) (e ∷ []) []) (one_edge w);
  more = λ vs ws.
      ap (λ ps. filter has_length (map rounded_edge (ways_of ps))) (map-append piece_of vs ws)
      ∙ ap (λ ss. filter has_length (map rounded_edge ss)) (map-append way_of (pieces_of vs) (pieces_of ws))
      ∙ ap (filter has_length) (map-append rounded_edge (ways_of (pieces_of vs)) (ways_of (pieces_of ws)))
      ∙ filter-append has_length (map rounded_edge (ways_of (pieces_of vs)))
      (map rounded_edge (ways_of (pieces_of ws)));
}

pub same_spots_round_alike : SameSpotsRoundAlike
same_spots_round_alike s t ds dt h = same_place-is (rounded (point_of s)) (rounded (point_of t))
    (sym (same_whole (rounded (point_of s)) (rounded (point_of t))) ∙ rounded_same (point_of s) (point_of t) ds dt h)
