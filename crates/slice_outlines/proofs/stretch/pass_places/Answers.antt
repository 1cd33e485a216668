-- Its stops are found, then they are passed.
use Rattle.std.proofs.Common.{◌++◌, [], List, sym, subst}
use Rattle.std.specs.List.{AllByRecursion}
use Rattle.slice_border.specs.Pieces.{HasSpot}
use Rattle.slice_outlines.specs.declared.mark.Mark.{Mark}
use Rattle.slice_outlines.specs.declared.flat.Flat.{Flat}
use Rattle.slice_border.specs.declared.stop.Stop.{Stop}
use Rattle.slice_outlines.specs.Marks.{spot_at}
use Rattle.slice_border.specs.Stops.{spots_in}
use Rattle.slice_outlines.specs.Heights.{marks_of}
use Rattle.slice_outlines.specs.Along.{HasComeOver}
use Rattle.slice_outlines.specs.Stretch.{AreStopsAt, TellWays}
use Rattle.slice_outlines.proofs.StretchStops.{strands_at}
use Rattle.std.proofs.Common.{None}
use Rattle.slice_outlines.proofs.stretch.pass_places.Goals as goal

pub pass_stops-requires-clause-stops : goal.pass_stops-requires-clause-stops
pass_stops-requires-clause-stops c = subst (AreStopsAt c.args.height.now) (sym c.deref.ensures.value)
    c.in_ok-stops.ensures.at

pub pass_stops-requires-clause-strands : goal.pass_stops-requires-clause-strands
pass_stops-requires-clause-strands c =
    let h = c.args.height.now in
    let ms : List Mark = c.args.kept.now.marks.items in
    subst (λ (ss : List Stop). AllByRecursion (λ m. HasSpot (spots_in ss) (spot_at h.edges.now h.at.now m))
    (marks_of h ms c.args.run.now)) (sym c.deref.ensures.value)
    (strands_at h ms c.args.run.now c.args.flats.now (spots_in c.in_ok-stops.stops.items) c.in_ok-stops.ensures.stops)

pub returns-clause-passed : goal.returns-clause-passed
returns-clause-passed c = λ on passed of tells.
    let h = c.args.height.now in
    let ms : List Mark = c.args.kept.now.marks.items in
    let run = c.args.run.now in
    let fs : List Flat = c.args.flats.now in
    let ss : List Stop = c.in_ok-stops.stops.items in
    let old = c.args.kept.now in
    let new = c.pass_stops.new.kept in
    let tell : TellWays h.edges.now fs c.deref.result.now = subst (TellWays h.edges.now fs) (sym c.deref.ensures.value)
    (tells ss c.in_ok-stops.ensures.at c.in_ok-stops.ensures.stops) in (
      spots_in ss,
      c.in_ok-stops.ensures.stops,
      λ come.
          let here = subst (λ (ts : List Stop). HasComeOver on passed (spots_in ts) run run.below run.above None ms
          old.given.items old.cursors) (sym c.deref.ensures.value) come in
          let end = c.in_ok-pass_stops.ensures.passed on passed of tell here in (
            end.0,
            subst (λ (ts : List Stop). HasComeOver on (passed ++ spots_in ts) [] run run.below_to run.above_to end.0
                new.marks.items new.given.items new.cursors) c.deref.ensures.value end.1,
          ),
    )

pub stops_of-requires-clause-run : goal.stops_of-requires-clause-run
stops_of-requires-clause-run c = c.requires.run

pub stops_of-requires-clause-below_pass : goal.stops_of-requires-clause-below_pass
stops_of-requires-clause-below_pass c = c.requires.below_pass

pub stops_of-requires-clause-above_pass : goal.stops_of-requires-clause-above_pass
stops_of-requires-clause-above_pass c = c.requires.above_pass

pub pass_stops-requires-clause-run : goal.pass_stops-requires-clause-run
pass_stops-requires-clause-run c = c.requires.run

pub pass_stops-requires-clause-below_order : goal.pass_stops-requires-clause-below_order
pass_stops-requires-clause-below_order c = c.requires.below_order

pub pass_stops-requires-clause-above_order : goal.pass_stops-requires-clause-above_order
pass_stops-requires-clause-above_order c = c.requires.above_order

pub pass_stops-requires-clause-below_pass : goal.pass_stops-requires-clause-below_pass
pass_stops-requires-clause-below_pass c = c.requires.below_pass

pub pass_stops-requires-clause-above_pass : goal.pass_stops-requires-clause-above_pass
pass_stops-requires-clause-above_pass c = c.requires.above_pass

pub returns-clause-right : goal.returns-clause-right
returns-clause-right c = c.in_ok-pass_stops.ensures.right

pub returns-clause-cursors : goal.returns-clause-cursors
returns-clause-cursors c = c.in_ok-pass_stops.ensures.cursors
