-- Each edge gives its spots.
use Rattle.std.proofs.Common.{◌++◌, ◌+◌, drop, get_or, sym, ap, ◌∙◌, List, append_assoc}
use Rattle.std.proofs.lemmas.List.{append-nil, at_drop_more, drop_all}
use Rattle.scad_geom.specs.declared.level.LeafEdge.{LeafEdge}
use Rattle.slice_bundles.specs.Bundles.{no_edge}
use Rattle.slice_pieces.specs.declared.piece.Spot.{Spot}
use Rattle.slice_border.specs.Pieces.{edge_spots, spots_at}
use Rattle.slice_border.specs.Stops.{spots_in}
use Rattle.slice_bool.proofs.stops.spots.Goals as goal

pub edges-preserved : goal.edges-preserved
edges-preserved c =
    let es : List LeafEdge = c.args.edges.now in
    let at = c.args.at.now in
    let i = c.edges.e-index in
    let before : List Spot = spots_in c.edges.out.items in
    let here : List Spot = edge_spots (get_or es i no_edge).edge at in
    let more : List Spot = spots_at (drop (i + 1) es) at in
    ap (λ (ss : List Spot). ss ++ more) c.in_ok-push_spots.ensures.ok ∙ append_assoc before here more
    ∙ ap (λ (ss : List Spot). before ++ ss) (sym (at_drop_more (λ xs. spots_at xs at) es i no_edge c.edges-test.true))
    ∙ c.edges.invariant

pub returns : goal.returns
returns c =
    let before : List Spot = spots_in c.edges.out.items in
    sym (append-nil before)
    ∙ ap (λ (es : List LeafEdge). before ++ spots_at es c.args.at.now)
    (sym (drop_all c.edges.e-index c.args.edges.now c.edges-test.false))
    ∙ c.edges.invariant
