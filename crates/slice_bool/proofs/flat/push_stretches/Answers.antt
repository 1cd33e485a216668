-- The next stretch gives its piece.
use Rattle.std.proofs.Common.{◌≡◌, ◌+◌, ◌-◌, ◌++◌, ℕ, List, Bool, true, false, drop, get_or, sym, ap, ap₂, ◌∙◌, arith}
use Rattle.std.proofs.lemmas.List.{append-nil}
use Rattle.slice_pieces.specs.declared.piece.Piece.{Piece}
use Rattle.slice_pieces.specs.Spots.{point_of}
use Rattle.scad_geom.specs.Shape.{is_in_by}
use Rattle.slice_border.specs.declared.stop.Stop.{Stop}
use Rattle.slice_border.specs.Pieces.{flat_pieces, stretch_piece}
use Rattle.slice_bool.specs.Along.{covered_piece}
use Rattle.slice_border.specs.Stops.{spots_in}
use Rattle.slice_bool.proofs.Stretches.{stretch, stretch_at, no_stretch, more_pieces}
use Rattle.slice_bool.proofs.Along.{covered_by}
use Rattle.slice_bool.proofs.flat.push_stretches.Goals as goal

pub stops-preserved : goal.stops-preserved
stops-preserved c =
    let es = c.args.sweep.now.edges.now in
    let shape = c.args.sweep.now.shape.now in
    let ss : List Stop = c.args.stops.now in
    let i : ℕ = c.stops.i in
    let s : Stop = c.index-stops-i.result in
    let t : Stop = c.index-stops-i-in-stops.result in
    let v : Bool = get_or c.args.above.now (i - 1) false in
    let w : Bool = get_or c.args.below.now (i - 1) false in
    let q : i + 1 - 1 ≡ i = omega arith in
    let step = stretch_at es shape ss i s t (omega arith) c.stops-test.true in
    let above : v ≡ is_in_by true true es shape (point_of s.spot) = c.requires.above.each (i - 1) s (omega (arith, c.stops-test.true))
    ∙ ap (λ (s : Stop). is_in_by true true es shape (point_of s.spot)) (sym c.index-stops-i.is) in
    let below : w ≡ is_in_by false true es shape (point_of s.spot) = c.requires.below.each (i - 1) s (omega (arith, c.stops-test.true))
    ∙ ap (λ (s : Stop). is_in_by false true es shape (point_of s.spot)) (sym c.index-stops-i.is) in
    let own : covered_piece v w s.spot t.spot c.covering_edge-name.result ≡ stretch es shape s.spot t.spot =
    covered_by es shape s.spot t.spot v w above below c.covering_edge-name.result
    ∙ ap (stretch_piece es shape s.spot t.spot) c.covering_edge-name.ensures in
    let piece = ap₂ (λ (s t : Stop). stretch es shape s.spot t.spot) c.index-stops-i.is c.index-stops-i-in-stops.is in
    ap (λ (k : ℕ). c.push_covering.new.out.items ++ flat_pieces es shape (drop k (spots_in ss))) q
    ∙ more_pieces c.stops.out.items c.push_covering.new.out.items
    (covered_piece v w s.spot t.spot c.covering_edge-name.result)
    (flat_pieces es shape (drop i (spots_in ss))) _
    c.in_ok-push_covering.ensures
    (ap (λ (ps : List Piece). c.stops.out.items ++ ps)
    (ap (λ (ps : List Piece). ps ++ flat_pieces es shape (drop i (spots_in ss))) (own ∙ piece) ∙ sym step) ∙
    c.stops.invariant)

pub returns : goal.returns
returns c =
    sym (append-nil c.stops.out.items)
    ∙ ap (λ (ps : List Piece). c.stops.out.items ++ ps)
    (sym (no_stretch c.args.sweep.now.edges.now c.args.sweep.now.shape.now c.args.stops.now c.stops.i
    c.stops-test.false))
    ∙ c.stops.invariant
