-- The front is lifted, and what is kept beside it passes the level.
use Rattle.std.proofs.Common.{◌≡◌, ◌≤◌, ◌<◌, ◌-◌, ℕ, List, length, get_or, take, drop, refl, sym, ap, ◌∙◌, subst}
use Rattle.std.specs.List.{All, AllByRecursion, AllZip}
use Rattle.scad_geom.specs.Level.{level_of, IsLower, IsAtMost}
use Rattle.slice_outlines.specs.Marks.{IsNamed, mark_at, spot_at}
use Rattle.std.proofs.lemmas.List.Elements.{recursion_from_All}
use Rattle.slice_sweep.specs.declared.change.Change.{Change}
use Rattle.slice_sweep.specs.declared.front.Front.{Front}
use Rattle.slice_sweep.specs.Changes.{AreChanges}
use Rattle.slice_sweep.specs.Front.{bundles_in, IsBegunTo}
use Rattle.slice_outlines.specs.declared.mark.Mark.{Mark}
use Rattle.slice_outlines.specs.declared.flat.Flat.{Flat}
use Rattle.slice_outlines.specs.Above.{IsTold, AreTaken}
use Rattle.slice_outlines.specs.declared.height.Open.{Open}
use Rattle.slice_outlines.specs.Flats.{LiesOn, IsOff, LiesAside}
use Rattle.slice_outlines.specs.Level.{AreFlatsOn}
use Rattle.slice_outlines.specs.Sweep.{CanClimb}
use Rattle.slice_outlines.proofs.Few.{bundles_few}
use Rattle.slice_outlines.proofs.Fitting.{named_size, fits_apart}
use Rattle.slice_outlines.proofs.Climbing.{swept_members, swept_named, swept_few, can_shift}
use Rattle.slice_outlines.proofs.FlatsOn.{level_flats, next_lower, next_later}
use Rattle.slice_outlines.proofs.Advancing.{IsClimb, changes_as, told_as, climbs, climbed}
use Rattle.slice_outlines.proofs.SweepEnd.{marks_all_pass}
use Rattle.slice_outlines.proofs.sweep.Sweep.advance.Goals as goal
use Rattle.slice_outlines.proofs.sweep.Sweep.advance.Goals.{After-flats_to-flat_to, After-deref-2, After-deref-4}
use Rattle.slice_outlines.proofs.sweep.Sweep.advance.Goals.{After-deref-7}

pub clear_cursors-requires-clause-members : goal.clear_cursors-requires-clause-members
clear_cursors-requires-clause-members c =
    let w = c.requires.swept in
    swept_members c.args.edges.now w.shape w.levels c.args.at.now _ c.args.self.now w.swept

pub clear_cursors-requires-clause-ready : goal.clear_cursors-requires-clause-ready
clear_cursors-requires-clause-ready c =
    let w = c.requires.swept in
    w.swept.ready.0

pub clear_cursors-requires-clause-named : goal.clear_cursors-requires-clause-named
clear_cursors-requires-clause-named c =
    let w = c.requires.swept in
    swept_named c.args.edges.now w.shape w.levels c.args.at.now _ c.args.self.now w.swept

pub clear_cursors-requires-clause-pass : goal.clear_cursors-requires-clause-pass
clear_cursors-requires-clause-pass c =
    let w = c.requires.swept in
    marks_all_pass c.args.edges.now w.shape w.levels c.args.at.now _ c.args.self.now w.swept w.are_levels _ refl

-- ---- what the steps so far give
-- the changes of the front are those of the groups at the level
changes : (c : After-deref-2) → AreChanges c.args.edges.now c.args.at.now (bundles_in c.args.self.now.front)
    (bundles_in c.advance.new.self) c.in_ok-changes.changes.items
changes c =
    let front = c.clear_cursors.ensures.front in
    subst (λ (f : Front). AreChanges c.args.edges.now c.args.at.now (bundles_in f) (bundles_in c.advance.new.self)
    c.in_ok-changes.changes.items) front
    (c.in_ok-changes.ensures.changes (subst (IsBegunTo c.args.edges.now c.args.at.now) (sym front)
    c.requires.swept.swept.ready.1))

named : (c : After-deref-2) → AllZip (λ m b. IsNamed m.name b) c.args.self.now.kept.marks.items
    (bundles_in c.args.self.now.front)
named c =
    let w = c.requires.swept in
    swept_named c.args.edges.now w.shape w.levels c.args.at.now _ c.args.self.now w.swept

seen : (c : After-deref-4) → c.deref-3.result.now ≡ c.args.self.now.kept.marks.items
seen c = c.deref-3.ensures.value ∙ ap (λ v. v.items) c.clear_cursors.ensures.marks

-- so the changes tell of the marks below the level
abbrev told : (c : After-deref-4) → IsTold c.deref-3.result.now (bundles_in c.advance.new.self) c.deref-4.result.now
told c =
    let before = (goal.at.marks_above-requires c).After-deref-2 in
    let below = bundles_in c.args.self.now.front in
    told_as c.args.edges.now c.args.at.now c.deref-3.result.now below (bundles_in c.advance.new.self)
    c.deref-4.result.now
    (changes_as c.args.edges.now c.args.at.now below (bundles_in c.advance.new.self) c.in_ok-changes.changes.items
    c.deref-4.result.now c.deref-4.ensures.value (changes before))
    (ap (λ (ms : List Mark). length ms) (seen c) ∙ named_size c.args.self.now.kept.marks.items below (named before))

-- the flat edges up to the next place lie on the level, and none from there on
parted : (c : After-flats_to-flat_to) → AllByRecursion (LiesOn c.args.at.now)
    (take (c.flats_to-flat_to.result - c.args.self.now.passed)
    (drop c.args.self.now.passed c.args.self.now.flats.items))
    × IsOff c.args.at.now (drop c.flats_to-flat_to.result c.args.self.now.flats.items)
parted c =
    let from = c.args.self.now.passed in
    let to = c.flats_to-flat_to.result in
    subst (λ (fs : List Flat). AllByRecursion (LiesOn c.args.at.now) (take (to - from) (drop from fs))
    × IsOff c.args.at.now (drop to fs)) c.deref.ensures.value (
      recursion_from_All (LiesOn c.args.at.now) (take (to - from) (drop from c.deref.result.now))
          c.flats_to-flat_to.ensures.on,
      c.flats_to-flat_to.ensures.off,
    )

-- what is kept for the level's places, and the flat edges on it
abbrev kept_above : After-deref-7 → Open
kept_above c = record {
  marks = c.replace-below.new.dest;
  cursors = c.shift.new.self;
  given = c.clear_cursors.new.self.kept.given;
}

abbrev flats_here : After-deref-7 → List Flat
flats_here c =
    let cleared = c.clear_cursors.new.self in
    take (c.flats_to-flat_to.result - cleared.passed) (drop cleared.passed c.deref-6.result.now)

climb : (c : After-deref-7) (w : CanClimb c.args.edges.now c.args.at.now c.args.upper.now c.args.self.now)
    → IsClimb c.args.edges.now c.args.at.now c.args.upper.now c.args.self.now w c.advance.new.self
    c.deref-5.result.now c.deref-7.result.now (flats_here c) (kept_above c)
climb c w =
    let es = c.args.edges.now in
    let l = c.args.at.now in
    let s = c.args.self.now in
    let cleared = c.clear_cursors.new.self in
    let up = bundles_in c.advance.new.self in
    let cs : List Change = c.in_ok-changes.changes.items in
    let before = (goal.at.pass_level-requires c).After-deref-2 in
    let marked = (goal.at.pass_level-requires c).After-deref-4 in
    let ch = changes before in
    let on = c.clear_cursors.ensures.stands w.shape w.swept.cursors in
    let ds : List Change = c.deref-7.result.now in
    let same : ds ≡ c.deref-4.result.now = c.deref-7.ensures.value ∙ sym c.deref-4.ensures.value in
    let swapped : c.deref-5.result.now ≡ s.kept.marks.items = c.deref-5.ensures.value
    ∙ ap (λ v. v.items) (c.replace-below.ensures.value ∙ c.clear_cursors.ensures.marks) in
    let above : c.replace-below.new.dest.items ≡ c.in_ok-above.above.items = ap
    (λ v. v.items) c.replace-below.ensures.after in
    let taken : AreTaken 0 ds ch.groups c.deref-5.result.now c.replace-below.new.dest.items =
    subst (λ (xs : List Change). AreTaken 0 xs ch.groups c.deref-5.result.now c.replace-below.new.dest.items) (sym same)
    (subst (λ (ms : List Mark). AreTaken 0 c.deref-4.result.now ch.groups ms c.replace-below.new.dest.items)
    (seen marked ∙ sym swapped)
    (subst (AreTaken 0 c.deref-4.result.now ch.groups c.deref-3.result.now) (sym above)
    (c.in_ok-above.ensures (told marked)))) in
    let to : ℕ = c.flats_to-flat_to.result in
    let all : List Flat = s.flats.items in
    let b = w.swept.flats_below in
    let p = parted (goal.at.pass_level-requires c).After-flats_to-flat_to in
    let fs : List Flat = flats_here c in
    let flat_is : take (to - s.passed) (drop s.passed all) ≡ fs =
    ap (λ (n : ℕ). take (to - n) (drop n all)) (sym c.clear_cursors.ensures.passed)
    ∙ ap (λ (gs : List Flat). take (to - cleared.passed) (drop cleared.passed gs))
    (sym (c.deref-6.ensures.value ∙ ap (λ v. v.items) c.clear_cursors.ensures.flats)) in
    let place = c.shift.ensures ch.groups
    (changes_as es l (bundles_in s.front) up cs c.deref-2.result.now c.deref-2.ensures.value ch).told
    (λ k d o.
    fits_apart es l ch.groups s.kept.marks.items (get_or cleared.kept.cursors.all.items k d).at
    (subst (AllZip (λ m k. IsNamed m.name k) s.kept.marks.items) (sym ch.below_is) (named before))
    ch.are_groups.together
    (subst (λ (bs : List (List ℕ)). (get_or cleared.kept.cursors.all.items k d).at ≤ length bs) (sym ch.below_is)
    (on.each k d o).there) (c.clear_cursors.ensures.clear k d o).apart) in
    record {
      few = c.requires.few;
      leaves = c.requires.balanced;
      next = c.requires.neighbours;
      bundles = c.in_ok-changes.ensures.bundles;
      changes = changes_as es l (bundles_in s.front) up cs ds c.deref-7.ensures.value ch;
      below_is = swapped;
      taken = taken;
      flats = subst (AreFlatsOn es l) flat_is (level_flats es l c.requires.neighbours.lower_divisor all w.swept.flats
          s.passed to c.flats_to-flat_to.ensures.from b.passed b.later p.0 p.1);
      given = ap (λ v. v.items) c.clear_cursors.ensures.given;
      cursors = cleared.kept.cursors;
      on_low = on;
      above = place;
      aside = λ k d o.
          let n : ℕ = (get_or cleared.kept.cursors.all.items k d).at in
          subst (λ (ms : List Mark). n < length ms → All (LiesAside l (spot_at es l (mark_at ms n))) fs) (sym swapped)
          (λ q. subst (All (LiesAside l (spot_at es l (mark_at s.kept.marks.items n)))) flat_is
          ((c.clear_cursors.ensures.clear k d o).aside q));
    }

-- ---- the steps themselves
pub shift-requires : goal.shift-requires
shift-requires c =
    let w = c.requires.swept in
    let es = c.args.edges.now in
    let l = c.args.at.now in
    let s = c.args.self.now in
    let up = bundles_in c.advance.new.self in
    let on = c.clear_cursors.ensures.stands w.shape w.swept.cursors in
    record {
      told = λ k d o. can_shift es l s.kept.marks.items (bundles_in s.front) up c.deref-2.result.now
          (get_or c.clear_cursors.new.self.kept.cursors.all.items k d).at
          (changes_as es l (bundles_in s.front) up c.in_ok-changes.changes.items c.deref-2.result.now
          c.deref-2.ensures.value (changes c)) (named c)
          (c.clear_cursors.ensures.clear k d o).apart (on.each k d o).there
          (swept_few es w.shape w.levels l _ s w.swept c.requires.few)
          (bundles_few es l c.args.upper.now up c.in_ok-changes.ensures.bundles c.requires.few);
    }

pub marks_above-requires : goal.marks_above-requires
marks_above-requires c = record { told = told c }

pub pass_level-requires : goal.pass_level-requires
pass_level-requires c =
    record {
      level = climbs _ c.args.upper.now c.args.self.now c.requires.swept c.deref-7.result.now (flats_here c)
          (kept_above c) (climb c c.requires.swept);
    }

pub returns : goal.returns
returns c = λ w.
    let es = c.args.edges.now in
    let l = c.args.at.now in
    let upper = c.args.upper.now in
    let s = c.args.self.now in
    let to : ℕ = c.flats_to-flat_to.result in
    let all : List Flat = s.flats.items in
    let before = (goal.at.returns c).After-deref-7 in
    let p = parted (goal.at.returns c).After-flats_to-flat_to in
    let b = w.swept.flats_below in
    let d = c.requires.neighbours.lower_divisor in
    let from = c.flats_to-flat_to.ensures.from in
    let flats : c.clear_cursors.new.self.flats.items ≡ all = ap (λ v. v.items) c.clear_cursors.ensures.flats in
    climbed _ upper s w c.deref-7.result.now (flats_here before) (kept_above before) (climb before w)
    c.pass_level.new.kept
    c.in_ok-pass_level.ensures
    (record {
      alloc = c.clear_cursors.new.self.alloc;
      front = c.advance.new.self;
      kept = c.pass_level.new.kept;
      flats = c.clear_cursors.new.self.flats;
      passed = to;
    }) refl refl flats
    (subst (λ (gs : List Flat). to ≤ length gs) c.deref.ensures.value c.flats_to-flat_to.ensures.to)
    (record {
      passed = subst (λ (gs : List Flat). AllByRecursion (λ f. IsLower (level_of f.y) upper) (take to gs)) (sym flats)
          (next_lower es l d all w.swept.flats s.passed to from b.passed b.later p.0 p.1 upper c.requires.neighbours);
      later = subst (λ (gs : List Flat). AllByRecursion (λ f. IsAtMost upper (level_of f.y)) (drop to gs)) (sym flats)
          (next_later es l d all w.swept.flats s.passed to from b.passed b.later p.0 p.1 upper c.requires.neighbours);
    }) c.in_ok-changes.ensures.ready c.in_ok-changes.ensures.begun

pub flats_to-flat_to-requires-clause-at : goal.flats_to-flat_to-requires-clause-at
flats_to-flat_to-requires-clause-at c = c.requires.at

pub clear_cursors-requires-clause-within : goal.clear_cursors-requires-clause-within
clear_cursors-requires-clause-within c = c.requires.within

pub clear_cursors-requires-clause-few : goal.clear_cursors-requires-clause-few
clear_cursors-requires-clause-few c = c.requires.few

pub clear_cursors-requires-clause-at : goal.clear_cursors-requires-clause-at
clear_cursors-requires-clause-at c = c.requires.at

pub advance-requires-clause-within : goal.advance-requires-clause-within
advance-requires-clause-within c = c.requires.within

pub advance-requires-clause-few : goal.advance-requires-clause-few
advance-requires-clause-few c = c.requires.few

pub advance-requires-clause-lower : goal.advance-requires-clause-lower
advance-requires-clause-lower c = c.requires.at

pub advance-requires-clause-upper : goal.advance-requires-clause-upper
advance-requires-clause-upper c = c.requires.upper

pub advance-requires-clause-neighbours : goal.advance-requires-clause-neighbours
advance-requires-clause-neighbours c = c.requires.neighbours
