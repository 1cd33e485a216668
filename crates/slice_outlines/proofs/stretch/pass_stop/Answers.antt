-- The strands at the stop are passed, with the flat edges that go on from there.
use Rattle.std.proofs.Common.{◌≡◌, ◌<◌, ◌≤◌, ◌∙◌, ◌∷◌, List, ℕ, length, drop, false, sym, subst, ap, ap₂, refl, arith}
use Rattle.slice_outlines.specs.declared.mark.Mark.{Mark}
use Rattle.slice_outlines.specs.declared.run.Run.{Run}
use Rattle.slice_border.specs.declared.stop.Stop.{Stop}
use Rattle.slice_outlines.specs.declared.flat.Flat.{Flat}
use Rattle.slice_outlines.specs.declared.height.Height.{Height}
use Rattle.slice_outlines.specs.declared.stretch.Along.{Along}
use Rattle.slice_outlines.specs.Marks.{left_of_first, mark_at, names_in}
use Rattle.slice_outlines.specs.Heights.{MeetAcross}
use Rattle.slice_outlines.specs.Along.{value_over, RoundAlike, LiesRightOf, IsWithinRun, IsBehindStop, HasLive}
use Rattle.slice_outlines.proofs.GroupPassing.{size_named}
use Rattle.slice_outlines.proofs.Onward.{come_as, name_as}
use Rattle.slice_outlines.proofs.Rounding.{meet_across, round_alike}
use Rattle.slice_outlines.proofs.stretch.pass_stop.Goals as goal

pub run_at-run-requires-clause-within : goal.run_at-run-requires-clause-within
run_at-run-requires-clause-within c = c.requires.within

pub run_at-run-requires-clause-below_pass : goal.run_at-run-requires-clause-below_pass
run_at-run-requires-clause-below_pass c = c.requires.below_pass

pub run_at-run-requires-clause-above_pass : goal.run_at-run-requires-clause-above_pass
run_at-run-requires-clause-above_pass c = c.requires.above_pass

pub pass_run-requires-clause-run : goal.pass_run-requires-clause-run
pass_run-requires-clause-run c = c.run_at-run.ensures.run

pub pass_run-requires-clause-within : goal.pass_run-requires-clause-within
pass_run-requires-clause-within c =
    subst (λ (r : Run). r.above_to ≤ length c.args.kept.now.marks.items) (sym c.mend_live.ensures.run)
    c.requires.within.run.above_to

pub pass_run-requires-clause-above_to : goal.pass_run-requires-clause-above_to
pass_run-requires-clause-above_to c =
    subst (λ (r : Run). c.run_at-run.result.above_to ≤ r.above_to) (sym c.mend_live.ensures.run)
    c.run_at-run.ensures.above_to

pub pass_run-requires-clause-below : goal.pass_run-requires-clause-below
pass_run-requires-clause-below c = c.run_at-run.ensures.below ∙ sym c.mend_live.ensures.below

pub pass_run-requires-clause-above : goal.pass_run-requires-clause-above
pass_run-requires-clause-above c = c.run_at-run.ensures.above ∙ sym c.mend_live.ensures.above

pub pass_run-requires-clause-spot : goal.pass_run-requires-clause-spot
pass_run-requires-clause-spot c = c.requires.spot

-- ---- how far the stretch is passed then
within_after : (h : Height) (ms ns : List Mark) (a b : Along) (k l : ℕ) → IsWithinRun h ms a → b.run ≡ a.run
    → names_in ns ≡ names_in ms → b.below ≡ k → k ≤ a.run.below_to → b.above ≡ l → l ≤ a.run.above_to
    → IsWithinRun h ns b
within_after h ms ns a b k l w e names f below g above = record {
  run = rw e (record {
    below = w.run.below;
    below_to = w.run.below_to;
    above = w.run.above;
    above_to = subst (λ (n : ℕ). a.run.above_to ≤ n) (sym (size_named ms ns names)) w.run.above_to;
  });
  below = rw (e, f) below;
  above = rw (e, g) above;
}

behind_after : (h : Height) (ms : List Mark) (a b : Along) (s : Stop) (k l : ℕ) → b.run ≡ a.run → b.below ≡ k
    → b.above ≡ l → (k < a.run.below_to → LiesRightOf h s (mark_at h.below.now k))
    → (l < a.run.above_to → LiesRightOf h s (mark_at ms l)) → IsBehindStop h ms b s
behind_after h ms a b s k l e f g below above = record { below = rw (e, f) below; above = rw (e, g) above }

live_after : (s : Stop) (fs : List Flat) (a b d : Along) → d.begun ≡ b.begun → d.live ≡ b.live → HasLive s fs a b
    → HasLive s fs a d
live_after s fs a b d e f h = record {
  from = rw e h.from;
  begun = rw e h.begun;
  later = rw e h.later;
  live = rw (e, f) h.live;
}

no_less : (a b c d : ℕ) → b ≡ a → b ≤ c → d ≡ c → a ≤ d
no_less a b c d e h f = omega arith

pub returns-clause-within : goal.returns-clause-within
returns-clause-within c =
    within_after c.args.height.now c.args.kept.now.marks.items c.pass_run.new.kept.marks.items c.args.along.now
    c.pass_run.new.along c.run_at-run.result.below_to c.run_at-run.result.above_to c.requires.within
    (c.in_ok-pass_run.ensures.run ∙ c.mend_live.ensures.run) c.in_ok-pass_run.ensures.names
    c.in_ok-pass_run.ensures.below c.run_at-run.ensures.below_to c.in_ok-pass_run.ensures.above
    c.run_at-run.ensures.above_to

pub returns-clause-run : goal.returns-clause-run
returns-clause-run c = c.in_ok-pass_run.ensures.run ∙ c.mend_live.ensures.run

pub returns-clause-names : goal.returns-clause-names
returns-clause-names c = c.in_ok-pass_run.ensures.names

pub returns-clause-right : goal.returns-clause-right
returns-clause-right c =
    subst (λ (r : Run). drop r.above_to c.pass_run.new.kept.marks.items ≡ drop r.above_to c.args.kept.now.marks.items)
    c.mend_live.ensures.run c.in_ok-pass_run.ensures.right

pub returns-clause-cursors : goal.returns-clause-cursors
returns-clause-cursors c = c.in_ok-pass_run.ensures.cursors

pub returns-clause-behind : goal.returns-clause-behind
returns-clause-behind c =
    behind_after c.args.height.now c.args.kept.now.marks.items c.args.along.now c.pass_run.new.along c.args.s.now
    c.run_at-run.result.below_to c.run_at-run.result.above_to
    (c.in_ok-pass_run.ensures.run ∙ c.mend_live.ensures.run) c.in_ok-pass_run.ensures.below
    c.in_ok-pass_run.ensures.above c.run_at-run.ensures.below_behind c.run_at-run.ensures.above_behind

pub returns-clause-below : goal.returns-clause-below
returns-clause-below c =
    no_less c.args.along.now.below c.run_at-run.result.below c.run_at-run.result.below_to c.pass_run.new.along.below
    c.run_at-run.ensures.below c.run_at-run.ensures.run.below c.in_ok-pass_run.ensures.below

pub returns-clause-above : goal.returns-clause-above
returns-clause-above c =
    no_less c.args.along.now.above c.run_at-run.result.above c.run_at-run.result.above_to c.pass_run.new.along.above
    c.run_at-run.ensures.above c.run_at-run.ensures.run.above c.in_ok-pass_run.ensures.above

pub returns-clause-begun : goal.returns-clause-begun
returns-clause-begun c =
    subst (λ (k : ℕ). k ≤ length c.args.flats.now) (sym c.in_ok-pass_run.ensures.begun) c.in_ok-mend_live.ensures.begun

pub returns-clause-live : goal.returns-clause-live
returns-clause-live c =
    live_after c.args.s.now c.args.flats.now c.args.along.now c.mend_live.new.along c.pass_run.new.along
    c.in_ok-pass_run.ensures.begun c.in_ok-pass_run.ensures.live c.in_ok-mend_live.ensures.live

pub returns-clause-passed : goal.returns-clause-passed
returns-clause-passed c = λ on passed later of name come.
    let h = c.args.height.now in
    let es = h.edges.now in
    let a = c.args.along.now in
    let mid = c.mend_live.new.along in
    let new = c.pass_run.new.along in
    let run = c.run_at-run.result in
    let marks : List Mark = c.args.kept.now.marks.items in
    let s = c.args.s.now.spot in
    let across : MeetAcross h marks run s = meet_across h marks a run c.args.s.now c.requires.at
    c.run_at-run.ensures.below c.run_at-run.ensures.above c.run_at-run.ensures.below_to c.run_at-run.ensures.above_to
    c.requires.below_pass c.requires.above_pass c.requires.next c.run_at-run.ensures.by in
    let round : RoundAlike h marks run s = round_alike h marks a run c.args.s.now c.requires.at
    c.run_at-run.ensures.below
    c.run_at-run.ensures.above c.run_at-run.ensures.below_to c.run_at-run.ensures.above_to c.requires.below_pass
    c.requires.above_pass c.requires.next c.run_at-run.ensures.by in
    c.in_ok-pass_run.ensures.passed on passed later of round across
    (name_as es s later new.live.items mid.live.items (value_over h a.run marks new.above)
    (value_over h mid.run marks run.above_to) (left_of_first (drop new.below h.below.now) false)
    (left_of_first (drop run.below_to h.below.now) false)
    (ap (λ v. v.items) c.in_ok-pass_run.ensures.live)
    (ap₂ (λ (r : Run) (k : ℕ). value_over h r marks k) (sym c.mend_live.ensures.run) c.in_ok-pass_run.ensures.above)
    (ap (λ (k : ℕ). left_of_first (drop k h.below.now) false) c.in_ok-pass_run.ensures.below) name)
    (come_as on passed (s ∷ later) a.run mid.run a.below mid.below a.above mid.above a.flat mid.flat marks marks
    c.args.kept.now.given.items c.args.kept.now.given.items c.args.kept.now.cursors (sym c.mend_live.ensures.run)
    (sym c.mend_live.ensures.below) (sym c.mend_live.ensures.above) (sym c.mend_live.ensures.flat) refl refl come)
