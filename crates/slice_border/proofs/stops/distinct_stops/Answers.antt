-- Sorting and dropping repeats leaves the stops.
use Rattle.std.proofs.Common.{sym, ap, ◌∙◌, subst}
use Rattle.std.proofs.lemmas.Result.{IfOk-weaker}
use Rattle.slice_events.specs.Distinct.{distinct_by}
use Rattle.slice_border.specs.Stops.{spots_in, is_left, AreStopsOf}
use Rattle.slice_border.proofs.Stopping.{sorted_stops}
use Rattle.slice_border.proofs.stops.distinct_stops.Goals as goal

pub returns : goal.returns
returns c =
    let all = c.args.stops.now.items in
    IfOk-weaker c.distinct.result _ _
    (λ v e. subst (AreStopsOf (spots_in all))
    (sym (e ∙ ap (λ ss. distinct_by is_left (spots_in ss)) c.deref.ensures.value))
    (sorted_stops all c.sort.new.stops.items c.in_ok-sort.ensures.permutation c.in_ok-sort.ensures.sorted))
    c.distinct.ensures
