-- The distinct ones of all spots.
use Rattle.std.proofs.Common.{List, subst}
use Rattle.std.proofs.lemmas.Result.{IfOk-weaker}
use Rattle.slice_pieces.specs.declared.piece.Spot.{Spot}
use Rattle.slice_border.specs.Stops.{spots_in, AreStopsOf}
use Rattle.slice_bool.proofs.stops.stops.Goals as goal

pub returns : goal.returns
returns c = IfOk-weaker c.distinct_stops.result _ _
    (λ v h.
    let stops = subst (λ (all : List Spot). AreStopsOf all (spots_in v.items)) c.in_ok-all.ensures h in
    record { rightwards = stops.rightwards; sound = stops.sound; complete = stops.complete })
    c.distinct_stops.ensures
