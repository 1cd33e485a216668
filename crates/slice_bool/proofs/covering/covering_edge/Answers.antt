-- The first flat edge that covers the stretch is the first edge that does.
use Rattle.std.proofs.Common.{◌≡◌, ◌+◌, ◌<◌, ℕ, Bool, true, false, List, length, get_or, drop, sym, ap, ◌∙◌}
use Rattle.std.specs.Prelude.{if◌then◌else◌, Some}
use Rattle.std.proofs.lemmas.List.{at_drop_more, at_drop_all}
use Rattle.scad_geom.specs.declared.level.LeafEdge.{LeafEdge}
use Rattle.slice_bundles.specs.Bundles.{no_edge}
use Rattle.slice_pieces.specs.declared.piece.Spot.{Spot}
use Rattle.slice_border.specs.Pieces.{covers}
use Rattle.slice_border.specs.Flats.{first_cover}
use Rattle.slice_border.proofs.Flats.{flats_cover}
use Rattle.slice_bool.proofs.covering.covering_edge.Goals as goal

-- the next number is the first whose edge covers the stretch, or is passed over
next_cover : (es : List LeafEdge) (s t : Spot) (ks : List ℕ) (i : ℕ) (b : Bool) → i < length ks
    → covers s t (get_or es (get_or ks i 0) no_edge) ≡ b
    → first_cover es s t (drop i ks) ≡ (if b then Some (get_or ks i 0) else first_cover es s t (drop (i + 1) ks))
next_cover es s t ks i b l is =
    at_drop_more (first_cover es s t) ks i 0 l
    ∙ ap (λ (b : Bool). if b then Some (get_or ks i 0) else first_cover es s t (drop (i + 1) ks)) is

pub flats-init : goal.flats-init
flats-init c = ap (first_cover c.args.edges.now c.args.s.now.spot c.args.t.now.spot) c.requires.flats ∙ flats_cover
    c.args.edges.now c.args.s.now.spot c.args.t.now.spot

pub covers-requires : goal.covers-requires
covers-requires c =
    c.requires.within (get_or c.args.flats.now c.flats.k-index 0) no_edge
    (c.requires.there c.flats.k-index 0 c.flats-test.true)

pub returns-then-covers : goal.returns-then-covers
returns-then-covers c =
    sym (next_cover c.args.edges.now c.args.s.now.spot c.args.t.now.spot c.args.flats.now c.flats.k-index true
    c.flats-test.true (sym c.covers.ensures ∙ c.if-covers.true))
    ∙ c.flats.invariant

pub flats-preserved : goal.flats-preserved
flats-preserved c =
    sym (next_cover c.args.edges.now c.args.s.now.spot c.args.t.now.spot c.args.flats.now c.flats.k-index false
    c.flats-test.true (sym c.covers.ensures ∙ c.if-covers.false))
    ∙ c.flats.invariant

pub returns : goal.returns
returns c =
    sym (at_drop_all (first_cover c.args.edges.now c.args.s.now.spot c.args.t.now.spot) c.args.flats.now c.flats.k-index
    c.flats-test.false)
    ∙ c.flats.invariant
