-- One place after another is mended, and all in the end.
use Rattle.std.proofs.Common.{refl, sym, subst, List, rules, arith}
use Rattle.slice_sweep.specs.declared.change.Change.{Change}
use Rattle.slice_sweep.specs.Places.{ArePlacedTo}
use Rattle.slice_sweep.proofs.Groups.{none_mended}
use Rattle.slice_sweep.proofs.Placing.{none_placed, all_placed}
use Rattle.slice_sweep.proofs.mend.mend.Goals as goal

pub places-init : goal.places-init
places-init c =
    let s = c.args.step.now in
    let L = c.args.strands.now.items in
    record {
      mended = none_mended s.edges.now s.lower.now s.upper.now L c.requires.waiting;
      placed = λ h. subst (λ (cs : List Change). ArePlacedTo s.edges.now s.lower.now 0 L L cs)
          (sym c.new-changes.ensures.items) (none_placed s.edges.now s.lower.now L h);
      low = c.requires.low;
      numbers = λ k r. refl;
    }

pub places-preserved : goal.places-preserved
places-preserved c = record {
  mended = c.in_ok-place.ensures.mended;
  placed = λ h. c.in_ok-place.ensures.told c.args.strands.now.items (c.places.invariant.placed h);
  low = c.in_ok-place.ensures.low;
  numbers = search rules;
}

pub returns-clause-changes : goal.returns-clause-changes
returns-clause-changes c h =
    let s = c.args.step.now in
    all_placed s.edges.now s.lower.now c.places.place c.args.strands.now.items c.places.strands.items
    c.places.changes.items (c.places.invariant.placed h) (omega (arith, c.places-test.false))
