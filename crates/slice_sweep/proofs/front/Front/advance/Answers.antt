-- The edges that begin are put to their places, the strands mended, and their keys written.
use Rattle.std.proofs.Common.{◌≤◌, ◌<◌, ◌∙◌, ℕ, ℤ, drop, length, sym, subst, List, All, pos, ◌<ℤ◌}
use mir.Syntax.{w128}
use Rattle.std.specs.List.{AllByRecursion}
use Rattle.std.proofs.lemmas.Int.{to_z-of_z}
use Rattle.scad_geom.specs.declared.level.Level.{Level}
use Rattle.scad_geom.specs.Level.{level_of, IsAtMost}
use Rattle.slice_bundles.specs.declared.start.Start.{Start}
use Rattle.slice_bundles.specs.Bundles.{AreBundles}
use Rattle.slice_sweep.specs.declared.lower_end.LowerEnd.{LowerEnd}
use Rattle.slice_sweep.specs.Keys.{IsBelowKey}
use Rattle.slice_sweep.specs.LowerEnds.{starts_of}
use Rattle.slice_sweep.specs.Strands.{bundles_of, numbers_in, AreWaiting}
use Rattle.slice_sweep.specs.Lows.{AreLow}
use Rattle.slice_sweep.specs.Front.{AreAll}
use Rattle.slice_sweep.specs.Changes.{AreChanges}
use Rattle.slice_sweep.specs.Places.{came_from_below, StartsAt}
use Rattle.slice_sweep.proofs.EdgeStarts.{all_came_from_below, begun_at_height, pending_above, live_below}
use Rattle.slice_sweep.proofs.HeightStep.{made_by, begun_there}
use Rattle.slice_sweep.proofs.Starts.{starts_left, rising_left, begun_by, pending_by}
use Rattle.slice_sweep.proofs.front.Front.advance.Goals as goal
use Rattle.slice_sweep.proofs.front.Front.advance.Goals.{In_ok-find_lows}

pub start_all-requires-clause-there : goal.start_all-requires-clause-there
start_all-requires-clause-there c =
    let es = c.args.edges.now in
    let s = c.args.self.now in
    subst (All (λ k. k < length es)) (sym (begun_by c.args.lower.now s.begun s.ends.items c.deref.result.now
    c.clear.new.self.items c.begin.new.numbers.items c.deref-2.result.now c.deref.ensures.value
    c.clear.ensures.items c.in_ok-self.ensures.begun c.deref-2.ensures.value))
    (begun_there es c.args.lower.now (starts_of (drop s.begun s.ends.items))
    (starts_left es s.begun s.ends.items c.requires.ready.starts))

pub begin-requires-clause-from : goal.begin-requires-clause-from
begin-requires-clause-from c =
    subst (λ (es : List LowerEnd). c.args.self.now.begun ≤ length es) (sym c.deref.ensures.value) c.requires.ready.begun

pub begin-requires-clause-at : goal.begin-requires-clause-at
begin-requires-clause-at c = c.requires.lower

pub start_all-requires-clause-within : goal.start_all-requires-clause-within
start_all-requires-clause-within c = c.requires.within

pub start_all-requires-clause-at : goal.start_all-requires-clause-at
start_all-requires-clause-at c = c.requires.lower

pub start_all-requires-clause-waiting : goal.start_all-requires-clause-waiting
start_all-requires-clause-waiting c = c.requires.ready.waiting

pub key_of-requires : goal.key_of-requires
key_of-requires c = c.requires.lower

pub mend-requires-clause-neighbours : goal.mend-requires-clause-neighbours
mend-requires-clause-neighbours c = c.requires.neighbours

pub mend-requires-clause-waiting : goal.mend-requires-clause-waiting
mend-requires-clause-waiting c = c.in_ok-start_all.ensures.waiting

pub wake_all-requires : goal.wake_all-requires
wake_all-requires c = record { ordered = c.in_ok-changes.ensures.ordered }

pub invariant_of-step-clause-within : goal.invariant_of-step-clause-within
invariant_of-step-clause-within c = c.requires.within

pub invariant_of-step-clause-few : goal.invariant_of-step-clause-few
invariant_of-step-clause-few c = c.requires.few

pub invariant_of-step-clause-lower_within : goal.invariant_of-step-clause-lower_within
invariant_of-step-clause-lower_within c = c.requires.lower

pub invariant_of-step-clause-upper_within : goal.invariant_of-step-clause-upper_within
invariant_of-step-clause-upper_within c = c.requires.upper

pub invariant_of-step-clause-key_is : goal.invariant_of-step-clause-key_is
invariant_of-step-clause-key_is c =
    subst (λ (z : ℤ). (wake : ℤ) → z <ℤ wake → IsBelowKey c.args.lower.now wake)
    (sym (to_z-of_z w128 c.key_of.result (record { sfits = c.key_of.type_inv }))) c.key_of.ensures

pub mend-requires-clause-low : goal.mend-requires-clause-low
mend-requires-clause-low c = c.in_ok-start_all.ensures.low c.requires.ready.low

pub find_lows-requires : goal.find_lows-requires
find_lows-requires c = record {
  low = subst (AreLow c.mend.new.lows.items) (sym c.deref-4.ensures.value)
      (c.wake_all.ensures.low c.mend.new.lows.items c.in_ok-changes.ensures.low);
}

made : (c : In_ok-find_lows)
    → AreBundles c.args.edges.now c.args.lower.now c.args.upper.now (bundles_of c.wake_all.new.strands.items)
    × AreWaiting c.args.edges.now c.args.upper.now c.wake_all.new.strands.items
    × ((h : Level) → pos 0 <ℤ h.d → IsAtMost c.args.upper.now h
    → AreAll c.args.edges.now h (numbers_in c.wake_all.new.strands.items)
    (starts_of (drop c.in_ok-self.field-0 c.args.self.now.ends.items)))
made c =
    let es = c.args.edges.now in
    let s = c.args.self.now in
    made_by es c.args.lower.now c.args.upper.now c.requires.neighbours (starts_of (drop s.begun s.ends.items))
    (starts_of (drop c.in_ok-self.field-0 s.ends.items)) c.deref-2.result.now s.strands.items
    c.start_all.new.strands.items c.mend.new.strands.items c.wake_all.new.strands.items
    (starts_left es s.begun s.ends.items c.requires.ready.starts)
    (rising_left s.begun s.ends.items c.requires.ready.rising) c.requires.ready.waiting c.requires.ready.later
    (begun_by c.args.lower.now s.begun s.ends.items c.deref.result.now c.clear.new.self.items
    c.begin.new.numbers.items c.deref-2.result.now c.deref.ensures.value c.clear.ensures.items
    c.in_ok-self.ensures.begun c.deref-2.ensures.value)
    (pending_by c.args.lower.now s.begun c.in_ok-self.field-0 s.ends.items c.deref.result.now c.deref.ensures.value
    c.in_ok-self.ensures.pending) c.in_ok-start_all.ensures.numbers c.in_ok-changes.ensures.numbers
    c.wake_all.ensures.bundles c.wake_all.ensures.ordered

pub returns-clause-bundles : goal.returns-clause-bundles
returns-clause-bundles c = (made c).0

pub returns-clause-ready : goal.returns-clause-ready
returns-clause-ready c = record {
  starts = c.requires.ready.starts;
  rising = c.requires.ready.rising;
  begun = subst (λ (es : List LowerEnd). c.in_ok-self.field-0 ≤ length es) c.deref.ensures.value
      c.in_ok-self.ensures.within;
  waiting = (made c).1;
  low = subst (AreLow c.find_lows.new.lows.items) c.deref-4.ensures.value c.in_ok-find_lows.ensures.low;
  later = (made c).2;
}

-- all strands have come from below, and those that start now are put among them
pub returns-clause-begun : goal.returns-clause-begun
returns-clause-begun c =
    let es = c.args.edges.now in
    let s = c.args.self.now in
    record {
      live = live_below es c.args.lower.now c.args.upper.now c.requires.neighbours c.wake_all.new.strands.items
          c.wake_all.ensures.ordered.mended.reach;
      pending = subst (AllByRecursion (λ (t : Start). IsAtMost c.args.upper.now (level_of t.y))) (sym (pending_by
          c.args.lower.now s.begun c.in_ok-self.field-0 s.ends.items c.deref.result.now c.deref.ensures.value
          c.in_ok-self.ensures.pending))
          (pending_above es c.args.lower.now c.args.upper.now c.requires.neighbours
          (starts_of (drop s.begun s.ends.items)) (starts_left es s.begun s.ends.items c.requires.ready.starts)
          (rising_left s.begun s.ends.items c.requires.ready.rising));
    }

pub returns-clause-changes : goal.returns-clause-changes
returns-clause-changes c h =
    let es = c.args.edges.now in
    let l = c.args.lower.now in
    let s = c.args.self.now in
    let P : List Start = starts_of (drop s.begun s.ends.items) in
    let old = all_came_from_below es l s.strands.items c.requires.ready.waiting.held h.live in
    let begin_now = subst (All (StartsAt es l)) (sym (begun_by l s.begun s.ends.items c.deref.result.now
    c.clear.new.self.items c.begin.new.numbers.items c.deref-2.result.now c.deref.ensures.value
    c.clear.ensures.items c.in_ok-self.ensures.begun c.deref-2.ensures.value))
    (begun_at_height es l P (starts_left es s.begun s.ends.items c.requires.ready.starts) h.pending) in
    let below = c.in_ok-start_all.ensures.below begin_now ∙ old.0 in
    let keyless = c.in_ok-start_all.ensures.keyless old.1 in
    subst (λ (bs : List (List ℕ)). AreChanges es l bs (bundles_of c.wake_all.new.strands.items)
    c.in_ok-changes.changes.items) below
    (subst (λ (bs : List (List ℕ)). AreChanges es l (came_from_below es l (bundles_of c.start_all.new.strands.items)) bs
    c.in_ok-changes.changes.items) (sym c.wake_all.ensures.bundles) (c.in_ok-changes.ensures.changes keyless))
