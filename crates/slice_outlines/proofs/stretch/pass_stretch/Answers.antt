-- The values of its strands are found, then its places are passed.
use Rattle.std.proofs.Common.{◌≡◌, List, None, refl, sym, ◌∙◌, subst}
use Rattle.scad_geom.specs.declared.point.Edge.{Edge}
use Rattle.slice_pieces.specs.declared.piece.Spot.{Spot}
use Rattle.slice_sweep.specs.Front.{bundles_in}
use Rattle.slice_outlines.specs.declared.mark.Mark.{Mark}
use Rattle.slice_outlines.specs.declared.flat.Flat.{Flat}
use Rattle.slice_outlines.specs.declared.height.Height.{Height}
use Rattle.slice_border.specs.Stops.{spots_in, AreStopsOf}
use Rattle.slice_outlines.specs.Cursors.{StandOn}
use Rattle.slice_outlines.specs.Heights.{AreValuedIn}
use Rattle.slice_outlines.specs.Stretch.{stretch_spots}
use Rattle.slice_outlines.proofs.Grouping.{same_names}
use Rattle.slice_outlines.proofs.Waiting.{order_by_names, pass_by_names}
use Rattle.slice_outlines.proofs.StretchStops.{same_stretch, with_cursors, run_there}
use Rattle.slice_outlines.proofs.stretch.pass_stretch.Goals as goal

pub pass_places-requires-clause-run : goal.pass_places-requires-clause-run
pass_places-requires-clause-run c =
    run_there c.args.height.now c.args.kept.now.marks.items c.find_values.new.kept.marks.items c.args.run.now
    c.find_values.ensures.rest.size c.requires.run

pub pass_places-requires-clause-above_order : goal.pass_places-requires-clause-above_order
pass_places-requires-clause-above_order c =
    let h = c.args.height.now in
    let old : List Mark = c.args.kept.now.marks.items in
    let mid : List Mark = c.find_values.new.kept.marks.items in
    let names = same_names old mid c.find_values.ensures.rest.size c.find_values.ensures.rest.names in
    order_by_names h old mid names c.requires.above_order

pub pass_places-requires-clause-above_pass : goal.pass_places-requires-clause-above_pass
pass_places-requires-clause-above_pass c =
    let h = c.args.height.now in
    let old : List Mark = c.args.kept.now.marks.items in
    let mid : List Mark = c.find_values.new.kept.marks.items in
    let names = same_names old mid c.find_values.ensures.rest.size c.find_values.ensures.rest.names in
    pass_by_names h.edges.now h.at.now old mid names c.requires.above_pass

pub returns : goal.returns
returns c = record {
  right = record {
    names = c.in_ok-pass_places.ensures.right.names
        ∙ sym (same_names c.args.kept.now.marks.items c.find_values.new.kept.marks.items c.find_values.ensures.rest.size
        c.find_values.ensures.rest.names);
    right = c.in_ok-pass_places.ensures.right.right ∙ c.find_values.ensures.rest.right;
  };
  stands = λ shape s.
      subst (StandOn c.args.height.now.edges.now shape (bundles_in c.args.height.now.front.now))
      (sym c.in_ok-pass_places.ensures.cursors) (c.find_values.ensures.stands shape s);
  passed = λ on passed of balanced stands tells.
      let h = c.args.height.now in
      let old : List Mark = c.args.kept.now.marks.items in
      let mid : List Mark = c.find_values.new.kept.marks.items in
      let names = same_names old mid c.find_values.ensures.rest.size c.find_values.ensures.rest.names in
      let run = c.args.run.now in
      let fs : List Flat = c.args.flats.now in
      let given : List Edge = c.args.kept.now.given.items in
      let alike : stretch_spots h old run fs ≡ stretch_spots h mid run fs = same_stretch h old mid run fs names in
      let valued = subst (λ (x : Height). AreValuedIn x on.shape run mid) (sym of.0)
      (c.find_values.ensures.values on.shape balanced stands) in
      let stand = subst (λ (x : Height). StandOn x.edges.now on.shape
      (bundles_in x.front.now) c.find_values.new.kept.cursors)
      (sym of.0) (c.find_values.ensures.stands on.shape stands) in
      let same : c.find_values.new.kept.given.items ≡ given = rw c.find_values.ensures.given refl in
      let e = c.in_ok-pass_places.ensures.passed on passed of (λ stops at all.
      tells stops at (subst (λ (ts : List Spot). AreStopsOf ts (spots_in stops)) (sym alike) all)) in (
        e.0,
        subst (λ (ts : List Spot). AreStopsOf ts e.0) (sym alike) e.1,
        λ reached. e.2 (with_cursors on passed e.0 run run.below run.above None mid given
            c.find_values.new.kept.given.items
            c.args.kept.now.cursors c.find_values.new.kept.cursors same stand
            (reached mid c.find_values.ensures.rest valued)),
      );
}
