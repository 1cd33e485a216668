-- The outlines of a shape hold what the shape holds, away from its edges.
use Rattle.std.proofs.Common.{◌≡◌, Bool, true, List, get_or, map, flat_map, ap, ◌∙◌, arith}
use lib.IntN.{pos}
use lib.Signed.{◌<ℤ◌}
use Rattle.std.specs.Prelude.{All}
use Rattle.std.proofs.lemmas.Int.{ints}
use Rattle.std.proofs.lemmas.List.Elements.{All-map, All-weaker}
use Rattle.scad_geom.specs.declared.point.Pt.{Pt}
use Rattle.scad_geom.specs.declared.point.Edge.{Edge}
use Rattle.scad_geom.specs.declared.level.LeafEdge.{LeafEdge}
use Rattle.scad_geom.specs.declared.shape.Shape.{Shape}
use Rattle.scad_geom.specs.Point.{Point, whole}
use Rattle.scad_geom.specs.Half.{centre}
use Rattle.scad_geom.specs.Segment.{segments}
use Rattle.scad_geom.specs.Winding.{wind_by, counted}
use Rattle.scad_geom.specs.Loop.{sides}
use Rattle.scad_geom.specs.Leaves.{AreLeavesBalanced}
use Rattle.scad_geom.specs.Shape.{is_in}
use Rattle.winding_laws.specs.Nearness.{IsProper, IsClearSegment}
use Rattle.winding_laws.specs.Edges.{rounded_edge}
use Rattle.winding_laws.proofs.Farness.{parts_are_clear}
use Rattle.winding_laws.proofs.Rounding.{rounding_keeps_winding}
use Rattle.winding_laws.proofs.Lengths.{lengths_keep_winding}
use Rattle.winding_laws.proofs.Cancelling.{cancelling_keeps_winding}
use Rattle.slice_bundles.specs.Bundles.{no_edge, edge_at}
use Rattle.slice_pieces.specs.declared.piece.Piece.{Piece}
use Rattle.slice_pieces.specs.Spots.{point_of}
use Rattle.slice_pieces.specs.Pieces.{way_of, ways_of, wind_pieces}
use Rattle.slice_pieces.specs.Rounding.{rounded_edges}
use Rattle.slice_pieces.proofs.Balance.{merged_balanced}
use Rattle.slice_loops.proofs.Winding.{outlines_keep_winding}
use Rattle.slice_border.specs.Pieces.{ArePieces}
use Rattle.slice_border.specs.Outlines.{AreMadeOf}
use Rattle.slice_border.specs.Membership.{IsClearByHalf, OutlinesHoldPoints, OutlinesHoldCentres}
use Rattle.slice_border.proofs.PieceNames.{pieces_are_named}
use Rattle.slice_border.proofs.OnEdges.{pieces_lie_on_edges}
use Rattle.slice_border.proofs.BalanceLevels.{pieces_are_balanced}
use Rattle.slice_border.proofs.Walk.{pieces_wind}
use Rattle.slice_border.proofs.Centre.{centres_are_held}
use Rattle.slice_border.proofs.PieceWinding.{IsPlaced, placed_proper, merged_placed, merged_wind}

-- the pieces of a border are placed
pub pieces_are_placed : (es : List LeafEdge) (shape : Shape) (pieces : List Piece) → ArePieces es shape pieces
    → All (IsPlaced es) pieces
pieces_are_placed es shape pieces h =
    let named = pieces_are_named es shape pieces h in
    let on = pieces_lie_on_edges es shape pieces h in
    λ i d l. record { there = named.there i d l; on = on i d l }

-- ---- placed pieces are clear of what their edges are clear of
placed_clear : (es : List LeafEdge) (q : Point) → IsClearByHalf es q → (p : Piece) → IsPlaced es p
    → IsClearSegment (pos 1) q (way_of p)
placed_clear es q c p h =
    let e : Edge = edge_at es p.edge in
    record {
      proper = placed_proper es p h;
      clear = parts_are_clear.part (pos 1) q (whole e.a) (whole e.b)
          (point_of p.from) (point_of p.to) h.on.from h.on.to (c p.edge no_edge h.there);
    }

ways_clear : (es : List LeafEdge) (q : Point) → IsClearByHalf es q → (ps : List Piece) → All (IsPlaced es) ps
    → All (IsClearSegment (pos 1) q) (ways_of ps)
ways_clear es q c ps h = All-map (IsClearSegment (pos 1) q) way_of ps (λ i d l. placed_clear es q c (get_or ps i d)
    (h i d l))

-- ---- each step keeps the winding number
module _ (es : List LeafEdge) (shape : Shape) (b : AreLeavesBalanced es) (above right : Bool) (q : Point) (d : pos 0 <ℤ q.d) (c : IsClearByHalf es q) where
  made_wind : (pieces : List Piece) (outlines : List (List Pt)) → ArePieces es shape pieces
      → AreMadeOf pieces outlines
      → wind_by above right q (segments (flat_map sides outlines)) ≡ wind_pieces above right q pieces
  made_wind pieces outlines h m =
      let placed = pieces_are_placed es shape pieces h in
      let merged_on = merged_placed es pieces m.merged m.are_merged placed in
      let proper = All-weaker (IsPlaced es) (λ p. IsProper (way_of p)) (placed_proper es) pieces placed in
      let balanced = merged_balanced pieces m.merged m.are_merged proper (pieces_are_balanced es shape pieces b h) in
      outlines_keep_winding m.left outlines m.are_outlines above right q d
      ∙ cancelling_keeps_winding (rounded_edges m.merged) m.left m.are_left.pairs m.are_left.taken above right q d
      ∙ lengths_keep_winding (map rounded_edge (ways_of m.merged)) above right q d
      ∙ rounding_keeps_winding above right q d (ways_of m.merged) balanced (ways_clear es q c m.merged merged_on)
      ∙ merged_wind es above right q d pieces m.merged m.are_merged placed

pub outlines_hold_points : OutlinesHoldPoints
outlines_hold_points es shape outlines b h above right q d c =
    made_wind es shape b above right q d c h.pieces outlines h.are_pieces h.are_made ∙ pieces_wind es shape h.pieces
    h.are_pieces above right q d

pub outlines_hold_centres : OutlinesHoldCentres
unfolding is_in
outlines_hold_centres es shape outlines b h i j c =
    outlines_hold_points es shape outlines b h true true (centre i j) (omega (arith, ints)) c ∙ ap counted
    (centres_are_held es shape i j)
