-- The stops are those of the parts.
use Rattle.std.proofs.Common.{◌≡◌, ◌++◌, ◌-◌, ℕ, List, true, take, drop, sym, subst}
use Rattle.std.proofs.lemmas.List.Elements.{All-take, All-drop}
use Rattle.slice_bundles.specs.Bundles.{edge_at}
use Rattle.slice_border.specs.Pieces.{passes_at}
use Rattle.slice_outlines.specs.declared.height.Height.{Height}
use Rattle.slice_outlines.specs.declared.mark.Mark.{Mark}
use Rattle.slice_border.specs.Stops.{spots_in, AreStopsOf}
use Rattle.slice_outlines.specs.Stops.{mark_spots, flat_spots, AllPass}
use Rattle.slice_outlines.proofs.StretchStops.{stops_at}
use Rattle.slice_outlines.proofs.stretch.stops_of.Goals as goal

pub slice_bounds-below-count : goal.slice_bounds-below-count
slice_bounds-below-count c = c.requires.run.below

pub slice_bounds-above-count : goal.slice_bounds-above-count
slice_bounds-above-count c = c.requires.run.above

pub stops-requires-clause-within : goal.stops-requires-clause-within
stops-requires-clause-within c = c.args.height.now.within

pub stops-requires-clause-at : goal.stops-requires-clause-at
stops-requires-clause-at c = c.args.height.now.at_within

-- a part of the strands passes the height as all do
part_passes : (h : Height) (ms : List Mark) (i j : ℕ) → AllPass h.edges.now h.at.now ms
    → AllPass h.edges.now h.at.now (take (j - i) (drop i ms))
part_passes h ms i j a =
    let P : Mark → Type 0 = λ m. passes_at (edge_at h.edges.now m.name) h.at.now ≡ true in
    All-take P (j - i) (drop i ms) (All-drop P i ms a)

pub stops-requires-clause-below : goal.stops-requires-clause-below
stops-requires-clause-below c =
    part_passes c.args.height.now c.args.height.now.below.now c.args.run.now.below c.args.run.now.below_to
    c.requires.below_pass

pub stops-requires-clause-above : goal.stops-requires-clause-above
stops-requires-clause-above c =
    part_passes c.args.height.now c.deref.result.now c.args.run.now.above c.args.run.now.above_to
    (subst (AllPass c.args.height.now.edges.now c.args.height.now.at.now) (sym c.deref.ensures.value)
    c.requires.above_pass)

pub returns-clause-stops : goal.returns-clause-stops
returns-clause-stops c =
    let h = c.args.height.now in
    let run = c.args.run.now in
    subst (λ (ms : List Mark). AreStopsOf (mark_spots h.edges.now h.at.now
    (take (run.below_to - run.below) (drop run.below h.below.now)) ++ (mark_spots h.edges.now h.at.now
    (take (run.above_to - run.above) (drop run.above ms)) ++ flat_spots h.at.now c.args.flats.now))
    (spots_in c.in_ok-stops.stops.items)) c.deref.ensures.value c.in_ok-stops.ensures

pub returns-clause-at : goal.returns-clause-at
returns-clause-at c =
    let h = c.args.height.now in
    let run = c.args.run.now in
    stops_at h c.args.kept.now.marks.items run c.args.flats.now c.in_ok-stops.stops.items c.requires.below_pass
    c.requires.above_pass
    (subst (λ (ms : List Mark). AreStopsOf (mark_spots h.edges.now h.at.now
    (take (run.below_to - run.below) (drop run.below h.below.now)) ++ (mark_spots h.edges.now h.at.now
    (take (run.above_to - run.above) (drop run.above ms)) ++ flat_spots h.at.now c.args.flats.now))
    (spots_in c.in_ok-stops.stops.items)) c.deref.ensures.value c.in_ok-stops.ensures)
