-- Those of strands below and above, and of the ends of flat edges.
use Rattle.std.proofs.Common.{◌++◌, List, ap, ◌∙◌, append_assoc}
use Rattle.slice_pieces.specs.declared.piece.Spot.{Spot}
use Rattle.slice_border.specs.Stops.{spots_in}
use Rattle.slice_outlines.specs.Stops.{mark_spots, flat_spots}
use Rattle.slice_outlines.proofs.stops.all_stops.Goals as goal

pub returns : goal.returns
returns c =
    let es = c.args.edges.now in
    let at = c.args.at.now in
    let below : List Spot = mark_spots es at c.args.below.now in
    let above : List Spot = mark_spots es at c.args.above.now in
    let flats : List Spot = flat_spots at c.args.flats.now in
    c.in_ok-push_flats.ensures
    ∙ ap (λ (ss : List Spot). ss ++ flats) (c.in_ok-push_strands-2.ensures
    ∙ ap (λ (ss : List Spot). ss ++ above) (c.in_ok-push_strands.ensures
    ∙ ap (λ (ss : List Spot). ss ++ below) (ap spots_in c.new-all.ensures.items)))
    ∙ append_assoc below above flats

pub push_strands-requires-clause-within : goal.push_strands-requires-clause-within
push_strands-requires-clause-within c = c.requires.within

pub push_strands-requires-clause-at : goal.push_strands-requires-clause-at
push_strands-requires-clause-at c = c.requires.at

pub push_strands-requires-clause-marks : goal.push_strands-requires-clause-marks
push_strands-requires-clause-marks c = c.requires.below

pub push_strands-requires-2-clause-within : goal.push_strands-requires-2-clause-within
push_strands-requires-2-clause-within c = c.requires.within

pub push_strands-requires-2-clause-at : goal.push_strands-requires-2-clause-at
push_strands-requires-2-clause-at c = c.requires.at

pub push_strands-requires-2-clause-marks : goal.push_strands-requires-2-clause-marks
push_strands-requires-2-clause-marks c = c.requires.above

pub push_flats-requires : goal.push_flats-requires
push_flats-requires c = record { at = c.requires.at }
