-- The distinct ones of all places.
use Rattle.std.proofs.Common.{List, subst}
use Rattle.std.proofs.lemmas.Result.{IfOk-weaker}
use Rattle.slice_pieces.specs.declared.piece.Spot.{Spot}
use Rattle.slice_border.specs.Stops.{spots_in, AreStopsOf}
use Rattle.slice_outlines.proofs.stops.stops.Goals as goal

pub returns : goal.returns
returns c = IfOk-weaker c.distinct_stops.result _ _
    (λ v. subst (λ (all : List Spot). AreStopsOf all (spots_in v.items)) c.in_ok-all.ensures)
    c.distinct_stops.ensures
