-- Both ends of a flat edge come behind those of the edges to its left.
use Rattle.std.proofs.Common.{◌+◌, ◌++◌, ◌∷◌, [], ℕ, List, drop, sym, ap, ◌∙◌, append_assoc}
use Rattle.std.proofs.lemmas.List.{append-nil, at_drop_more, drop_all}
use Rattle.slice_pieces.specs.declared.piece.Spot.{Spot}
use Rattle.slice_border.specs.Pieces.{whole_spot}
use Rattle.slice_outlines.specs.declared.flat.Flat.{Flat}
use Rattle.slice_border.specs.Stops.{spots_in}
use Rattle.slice_outlines.specs.Stops.{flat_spots}
use Rattle.slice_outlines.proofs.stops.push_flats.Goals as goal

pub flats-preserved : goal.flats-preserved
flats-preserved c =
    let at = c.args.at.now in
    let fs : List Flat = c.args.flats.now in
    let i : ℕ = c.flats.e-index in
    let e : Flat = c.e-item.result in
    let out : List Spot = spots_in c.flats.out.items in
    let rest : List Spot = flat_spots at (drop (i + 1) fs) in
    ap (λ (ss : List Spot). ss ++ rest) c.in_ok-push_ends.ensures
    ∙ append_assoc out (whole_spot e.left at ∷ (whole_spot e.right at ∷ [])) rest
    ∙ ap (λ (ss : List Spot). out ++ ss)
    (ap (λ (f : Flat). whole_spot f.left at ∷ (whole_spot f.right at ∷ rest)) c.e-item.is
    ∙ sym (at_drop_more (flat_spots at) fs i e c.flats-test.true))
    ∙ c.flats.invariant

pub returns : goal.returns
returns c =
    let before : List Spot = spots_in c.flats.out.items in
    sym (append-nil before)
    ∙ ap (λ (fs : List Flat). before ++ flat_spots c.args.at.now fs)
    (sym (drop_all c.flats.e-index c.args.flats.now c.flats-test.false))
    ∙ c.flats.invariant
