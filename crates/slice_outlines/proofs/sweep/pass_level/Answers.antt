-- Stretch after stretch, with the groups between them.
use Rattle.std.proofs.Common.{List, length, refl, sym, ap, ◌∙◌, subst}
use Rattle.slice_outlines.specs.declared.mark.Mark.{Mark}
use Rattle.slice_outlines.specs.declared.run.Run.{Run}
use Rattle.slice_outlines.specs.Stops.{AllPass}
use Rattle.slice_outlines.specs.Heights.{AreInOrder}
use Rattle.slice_outlines.specs.Ahead.{between}
use Rattle.slice_outlines.proofs.Joining.{whole_cast}
use Rattle.slice_outlines.proofs.GroupPassing.{size_named}
use Rattle.slice_outlines.proofs.StretchStops.{run_there}
use Rattle.slice_outlines.proofs.Levelling.{IsSoFar, between_at, groups_done}
use Rattle.slice_outlines.proofs.Stretching.{to_stretch, to_end, stretch_passed}
use Rattle.slice_outlines.proofs.LevelEnds.{left_cast, at_first, to_right, at_last, stretch_by, first_order, below_order, below_there, now_order, now_pass, now_there, now_size, now_stands}
use Rattle.slice_outlines.proofs.sweep.pass_level.Goals as goal

pub stretches-init : goal.stretches-init
stretches-init c = λ w.
    subst (λ (r : Run). IsSoFar c.args.height.now c.args.changes.now c.args.flats.now c.args.kept.now w 0
    (record { count = 0; last = r }) c.args.kept.now) (sym c.first.ensures)
    (at_first c.args.height.now c.args.changes.now c.args.flats.now c.args.kept.now w)

pub run_between-run-requires-clause-ends : goal.run_between-run-requires-clause-ends
run_between-run-requires-clause-ends c =
    let one = c.index-flats-from.result in
    let j = c.joined_from-joined in
    first_order c.args.height.now.edges.now c.args.flats.now c.stretches.from j.result.to one j.result.right _ _
    c.requires.level.flats.each c.stretches-test.true c.index-flats-from.is j.ensures.from j.ensures.joined
    (left_cast c.args.flats.now c.stretches.from one c.index-flats-from.is) (whole_cast j.result.right j.ensures.size)

pub run_between-run-requires-clause-below : goal.run_between-run-requires-clause-below
run_between-run-requires-clause-below c =
    below_order c.args.height.now c.args.changes.now c.args.flats.now c.args.kept.now c.requires.level

pub run_between-run-requires-clause-above : goal.run_between-run-requires-clause-above
run_between-run-requires-clause-above c =
    let w = c.requires.level in
    subst (AreInOrder c.args.height.now) (sym c.deref.ensures.value)
    (now_order c.args.height.now c.args.changes.now c.args.flats.now c.args.kept.now w c.stretches.from
    c.stretches.passed c.stretches.kept (c.stretches.invariant w))

pub run_between-run-requires-clause-above_pass : goal.run_between-run-requires-clause-above_pass
run_between-run-requires-clause-above_pass c =
    let w = c.requires.level in
    let h = c.args.height.now in
    subst (AllPass h.edges.now h.at.now) (sym c.deref.ensures.value)
    (now_pass h c.args.changes.now c.args.flats.now c.args.kept.now w c.stretches.from
    c.stretches.passed c.stretches.kept (c.stretches.invariant w))

pub pass_groups-requires-clause-stands : goal.pass_groups-requires-clause-stands
pass_groups-requires-clause-stands c =
    let w = c.requires.level in
    now_stands c.args.height.now c.args.changes.now c.args.flats.now c.args.kept.now w c.stretches.from
    c.stretches.passed c.stretches.kept (c.stretches.invariant w)

pub pass_groups-requires-clause-size : goal.pass_groups-requires-clause-size
pass_groups-requires-clause-size c =
    let w = c.requires.level in
    now_size c.args.height.now c.args.changes.now c.args.flats.now c.args.kept.now w c.stretches.from
    c.stretches.passed c.stretches.kept (c.stretches.invariant w)

pub pass_groups-requires-clause-pass_above : goal.pass_groups-requires-clause-pass_above
pass_groups-requires-clause-pass_above c =
    let w = c.requires.level in
    now_pass c.args.height.now c.args.changes.now c.args.flats.now c.args.kept.now w c.stretches.from
    c.stretches.passed c.stretches.kept (c.stretches.invariant w)

pub pass_groups-requires-clause-there_below : goal.pass_groups-requires-clause-there_below
pass_groups-requires-clause-there_below c =
    below_there c.args.height.now c.args.changes.now c.args.flats.now c.args.kept.now c.requires.level

pub pass_groups-requires-clause-there_above : goal.pass_groups-requires-clause-there_above
pass_groups-requires-clause-there_above c =
    let w = c.requires.level in
    now_there c.args.height.now c.args.changes.now c.args.flats.now c.args.kept.now w c.stretches.from
    c.stretches.passed c.stretches.kept (c.stretches.invariant w)

pub pass_groups-requires-clause-behind : goal.pass_groups-requires-clause-behind
pass_groups-requires-clause-behind c = (c.stretches.invariant c.requires.level).count

pub pass_groups-requires-clause-ahead : goal.pass_groups-requires-clause-ahead
pass_groups-requires-clause-ahead c =
    let h = c.args.height.now in
    let cs = c.args.changes.now in
    let fs = c.args.flats.now in
    let old = c.args.kept.now in
    let w = c.requires.level in
    let from = c.stretches.from in
    let p = c.stretches.passed in
    let now = c.stretches.kept in
    let f = c.stretches.invariant w in
    let one = c.index-flats-from.result in
    let j = c.joined_from-joined in
    let run = c.run_between-run.result in
    let st = stretch_by h fs from j.result.to one j.result.right _ _ run now.marks.items c.deref.result.now
    c.stretches-test.true c.index-flats-from.is j.ensures.from j.ensures.to j.ensures.joined j.ensures.next
    c.deref.ensures.value (left_cast c.args.flats.now c.stretches.from one c.index-flats-from.is)
    (whole_cast j.result.right j.ensures.size)
    c.run_between-run.ensures.run c.run_between-run.ensures.below c.run_between-run.ensures.above in
    let pm = now_pass h cs fs old w from p now f in
    let t = to_stretch h cs fs old w from j.result.to one j.result.right run now.marks.items st pm p now f refl in
    between_at h cs fs old w from p now f run t.0

pub pass_stretch-requires-clause-stands : goal.pass_stretch-requires-clause-stands
pass_stretch-requires-clause-stands c =
    let h = c.args.height.now in
    let cs = c.args.changes.now in
    let fs = c.args.flats.now in
    let old = c.args.kept.now in
    let w = c.requires.level in
    let from = c.stretches.from in
    let p = c.stretches.passed in
    let now = c.stretches.kept in
    let f = c.stretches.invariant w in
    let one = c.index-flats-from.result in
    let j = c.joined_from-joined in
    let run = c.run_between-run.result in
    let st = stretch_by h fs from j.result.to one j.result.right _ _ run now.marks.items c.deref.result.now
    c.stretches-test.true c.index-flats-from.is j.ensures.from j.ensures.to j.ensures.joined j.ensures.next
    c.deref.ensures.value (left_cast c.args.flats.now c.stretches.from one c.index-flats-from.is)
    (whole_cast j.result.right j.ensures.size)
    c.run_between-run.ensures.run c.run_between-run.ensures.below c.run_between-run.ensures.above in
    let pm = now_pass h cs fs old w from p now f in
    let t = to_stretch h cs fs old w from j.result.to one j.result.right run now.marks.items st pm p now f refl in
    let b = between_at h cs fs old w from p now f run t.0 in
    let mid = c.pass_groups.new.kept in
    let q = c.in_ok-passed.passed in
    let g = groups_done h cs fs old w from p now f run t.0 t.1 q mid (c.in_ok-passed.ensures.passed b)
    (c.in_ok-passed.ensures.next b) in
    now_stands h cs fs old w from q mid g.0

pub pass_stretch-requires-clause-size : goal.pass_stretch-requires-clause-size
pass_stretch-requires-clause-size c =
    let h = c.args.height.now in
    let cs = c.args.changes.now in
    let fs = c.args.flats.now in
    let old = c.args.kept.now in
    let w = c.requires.level in
    let from = c.stretches.from in
    let p = c.stretches.passed in
    let now = c.stretches.kept in
    let f = c.stretches.invariant w in
    let one = c.index-flats-from.result in
    let j = c.joined_from-joined in
    let run = c.run_between-run.result in
    let st = stretch_by h fs from j.result.to one j.result.right _ _ run now.marks.items c.deref.result.now
    c.stretches-test.true c.index-flats-from.is j.ensures.from j.ensures.to j.ensures.joined j.ensures.next
    c.deref.ensures.value (left_cast c.args.flats.now c.stretches.from one c.index-flats-from.is)
    (whole_cast j.result.right j.ensures.size)
    c.run_between-run.ensures.run c.run_between-run.ensures.below c.run_between-run.ensures.above in
    let pm = now_pass h cs fs old w from p now f in
    let t = to_stretch h cs fs old w from j.result.to one j.result.right run now.marks.items st pm p now f refl in
    let b = between_at h cs fs old w from p now f run t.0 in
    let mid = c.pass_groups.new.kept in
    let q = c.in_ok-passed.passed in
    let g = groups_done h cs fs old w from p now f run t.0 t.1 q mid (c.in_ok-passed.ensures.passed b)
    (c.in_ok-passed.ensures.next b) in
    now_size h cs fs old w from q mid g.0

pub pass_stretch-requires-clause-run : goal.pass_stretch-requires-clause-run
pass_stretch-requires-clause-run c =
    let h = c.args.height.now in
    let cs = c.args.changes.now in
    let fs = c.args.flats.now in
    let old = c.args.kept.now in
    let w = c.requires.level in
    let from = c.stretches.from in
    let p = c.stretches.passed in
    let now = c.stretches.kept in
    let f = c.stretches.invariant w in
    let one = c.index-flats-from.result in
    let j = c.joined_from-joined in
    let run = c.run_between-run.result in
    let st = stretch_by h fs from j.result.to one j.result.right _ _ run now.marks.items c.deref.result.now
    c.stretches-test.true c.index-flats-from.is j.ensures.from j.ensures.to j.ensures.joined j.ensures.next
    c.deref.ensures.value (left_cast c.args.flats.now c.stretches.from one c.index-flats-from.is)
    (whole_cast j.result.right j.ensures.size)
    c.run_between-run.ensures.run c.run_between-run.ensures.below c.run_between-run.ensures.above in
    let pm = now_pass h cs fs old w from p now f in
    let t = to_stretch h cs fs old w from j.result.to one j.result.right run now.marks.items st pm p now f refl in
    let b = between_at h cs fs old w from p now f run t.0 in
    let mid = c.pass_groups.new.kept in
    let q = c.in_ok-passed.passed in
    let g = groups_done h cs fs old w from p now f run t.0 t.1 q mid (c.in_ok-passed.ensures.passed b)
    (c.in_ok-passed.ensures.next b) in
    run_there h now.marks.items mid.marks.items run
    (size_named now.marks.items mid.marks.items (c.in_ok-passed.ensures.next b).names) st.run_of

pub pass_stretch-requires-clause-below_order : goal.pass_stretch-requires-clause-below_order
pass_stretch-requires-clause-below_order c =
    below_order c.args.height.now c.args.changes.now c.args.flats.now c.args.kept.now c.requires.level

pub pass_stretch-requires-clause-above_order : goal.pass_stretch-requires-clause-above_order
pass_stretch-requires-clause-above_order c =
    let h = c.args.height.now in
    let cs = c.args.changes.now in
    let fs = c.args.flats.now in
    let old = c.args.kept.now in
    let w = c.requires.level in
    let from = c.stretches.from in
    let p = c.stretches.passed in
    let now = c.stretches.kept in
    let f = c.stretches.invariant w in
    let one = c.index-flats-from.result in
    let j = c.joined_from-joined in
    let run = c.run_between-run.result in
    let st = stretch_by h fs from j.result.to one j.result.right _ _ run now.marks.items c.deref.result.now
    c.stretches-test.true c.index-flats-from.is j.ensures.from j.ensures.to j.ensures.joined j.ensures.next
    c.deref.ensures.value (left_cast c.args.flats.now c.stretches.from one c.index-flats-from.is)
    (whole_cast j.result.right j.ensures.size)
    c.run_between-run.ensures.run c.run_between-run.ensures.below c.run_between-run.ensures.above in
    let pm = now_pass h cs fs old w from p now f in
    let t = to_stretch h cs fs old w from j.result.to one j.result.right run now.marks.items st pm p now f refl in
    let b = between_at h cs fs old w from p now f run t.0 in
    let mid = c.pass_groups.new.kept in
    let q = c.in_ok-passed.passed in
    let g = groups_done h cs fs old w from p now f run t.0 t.1 q mid (c.in_ok-passed.ensures.passed b)
    (c.in_ok-passed.ensures.next b) in
    now_order h cs fs old w from q mid g.0

pub pass_stretch-requires-clause-above_pass : goal.pass_stretch-requires-clause-above_pass
pass_stretch-requires-clause-above_pass c =
    let h = c.args.height.now in
    let cs = c.args.changes.now in
    let fs = c.args.flats.now in
    let old = c.args.kept.now in
    let w = c.requires.level in
    let from = c.stretches.from in
    let p = c.stretches.passed in
    let now = c.stretches.kept in
    let f = c.stretches.invariant w in
    let one = c.index-flats-from.result in
    let j = c.joined_from-joined in
    let run = c.run_between-run.result in
    let st = stretch_by h fs from j.result.to one j.result.right _ _ run now.marks.items c.deref.result.now
    c.stretches-test.true c.index-flats-from.is j.ensures.from j.ensures.to j.ensures.joined j.ensures.next
    c.deref.ensures.value (left_cast c.args.flats.now c.stretches.from one c.index-flats-from.is)
    (whole_cast j.result.right j.ensures.size)
    c.run_between-run.ensures.run c.run_between-run.ensures.below c.run_between-run.ensures.above in
    let pm = now_pass h cs fs old w from p now f in
    let t = to_stretch h cs fs old w from j.result.to one j.result.right run now.marks.items st pm p now f refl in
    let b = between_at h cs fs old w from p now f run t.0 in
    let mid = c.pass_groups.new.kept in
    let q = c.in_ok-passed.passed in
    let g = groups_done h cs fs old w from p now f run t.0 t.1 q mid (c.in_ok-passed.ensures.passed b)
    (c.in_ok-passed.ensures.next b) in
    now_pass h cs fs old w from q mid g.0

pub skip_groups-passed-requires-clause-behind : goal.skip_groups-passed-requires-clause-behind
skip_groups-passed-requires-clause-behind c =
    let h = c.args.height.now in
    let cs = c.args.changes.now in
    let fs = c.args.flats.now in
    let old = c.args.kept.now in
    let w = c.requires.level in
    let from = c.stretches.from in
    let p = c.stretches.passed in
    let now = c.stretches.kept in
    let f = c.stretches.invariant w in
    let one = c.index-flats-from.result in
    let j = c.joined_from-joined in
    let run = c.run_between-run.result in
    let st = stretch_by h fs from j.result.to one j.result.right _ _ run now.marks.items c.deref.result.now
    c.stretches-test.true c.index-flats-from.is j.ensures.from j.ensures.to j.ensures.joined j.ensures.next
    c.deref.ensures.value (left_cast c.args.flats.now c.stretches.from one c.index-flats-from.is)
    (whole_cast j.result.right j.ensures.size)
    c.run_between-run.ensures.run c.run_between-run.ensures.below c.run_between-run.ensures.above in
    let pm = now_pass h cs fs old w from p now f in
    let t = to_stretch h cs fs old w from j.result.to one j.result.right run now.marks.items st pm p now f refl in
    let b = between_at h cs fs old w from p now f run t.0 in
    let mid = c.pass_groups.new.kept in
    let q = c.in_ok-passed.passed in
    let g = groups_done h cs fs old w from p now f run t.0 t.1 q mid (c.in_ok-passed.ensures.passed b)
    (c.in_ok-passed.ensures.next b) in
    g.0.count

pub stretches-preserved : goal.stretches-preserved
stretches-preserved c = λ w.
    let h = c.args.height.now in
    let cs = c.args.changes.now in
    let fs = c.args.flats.now in
    let old = c.args.kept.now in
    let from = c.stretches.from in
    let p = c.stretches.passed in
    let now = c.stretches.kept in
    let f = c.stretches.invariant w in
    let one = c.index-flats-from.result in
    let j = c.joined_from-joined in
    let run = c.run_between-run.result in
    let st = stretch_by h fs from j.result.to one j.result.right _ _ run now.marks.items c.deref.result.now
    c.stretches-test.true c.index-flats-from.is j.ensures.from j.ensures.to j.ensures.joined j.ensures.next
    c.deref.ensures.value (left_cast c.args.flats.now c.stretches.from one c.index-flats-from.is)
    (whole_cast j.result.right j.ensures.size)
    c.run_between-run.ensures.run c.run_between-run.ensures.below c.run_between-run.ensures.above in
    let pm = now_pass h cs fs old w from p now f in
    let t = to_stretch h cs fs old w from j.result.to one j.result.right run now.marks.items st pm p now f refl in
    let b = between_at h cs fs old w from p now f run t.0 in
    let mid = c.pass_groups.new.kept in
    let q = c.in_ok-passed.passed in
    let g = groups_done h cs fs old w from p now f run t.0 t.1 q mid (c.in_ok-passed.ensures.passed b)
    (c.in_ok-passed.ensures.next b) in
    let same = (c.in_ok-passed.ensures.next b).names in
    let e = to_end h cs fs old w from j.result.to one j.result.right run now.marks.items st pm q mid g.0 same g.1 g.2 in
    stretch_passed h cs fs old w from j.result.to one j.result.right run now.marks.items st pm q mid g.0 same g.1 g.2
    c.skip_groups-passed.result c.pass_stretch.new.kept c.in_ok-pass_stretch.ensures.passed
    c.in_ok-pass_stretch.ensures.right c.in_ok-pass_stretch.ensures.stands
    (c.skip_groups-passed.ensures.next h mid.marks.items
    (between_at h cs fs old w from q mid g.0
    (between run.below_to run.above_to) e.0)) c.skip_groups-passed.ensures.behind

pub pass_groups-requires-2-clause-stands : goal.pass_groups-requires-2-clause-stands
pass_groups-requires-2-clause-stands c =
    let h = c.args.height.now in
    let cs = c.args.changes.now in
    let fs = c.args.flats.now in
    let old = c.args.kept.now in
    let w = c.requires.level in
    let from = c.stretches.from in
    let p = c.stretches.passed in
    let now = c.stretches.kept in
    let f = c.stretches.invariant w in
    now_stands h cs fs old w from p now f

pub pass_groups-requires-2-clause-size : goal.pass_groups-requires-2-clause-size
pass_groups-requires-2-clause-size c =
    let h = c.args.height.now in
    let cs = c.args.changes.now in
    let fs = c.args.flats.now in
    let old = c.args.kept.now in
    let w = c.requires.level in
    let from = c.stretches.from in
    let p = c.stretches.passed in
    let now = c.stretches.kept in
    let f = c.stretches.invariant w in
    now_size h cs fs old w from p now f

pub pass_groups-requires-2-clause-pass_above : goal.pass_groups-requires-2-clause-pass_above
pass_groups-requires-2-clause-pass_above c =
    let h = c.args.height.now in
    let cs = c.args.changes.now in
    let fs = c.args.flats.now in
    let old = c.args.kept.now in
    let w = c.requires.level in
    let from = c.stretches.from in
    let p = c.stretches.passed in
    let now = c.stretches.kept in
    let f = c.stretches.invariant w in
    now_pass h cs fs old w from p now f

pub pass_groups-requires-2-clause-there_below : goal.pass_groups-requires-2-clause-there_below
pass_groups-requires-2-clause-there_below c =
    below_there c.args.height.now c.args.changes.now c.args.flats.now c.args.kept.now c.requires.level

pub pass_groups-requires-2-clause-there_above : goal.pass_groups-requires-2-clause-there_above
pass_groups-requires-2-clause-there_above c =
    let h = c.args.height.now in
    let cs = c.args.changes.now in
    let fs = c.args.flats.now in
    let old = c.args.kept.now in
    let w = c.requires.level in
    let from = c.stretches.from in
    let p = c.stretches.passed in
    let now = c.stretches.kept in
    let f = c.stretches.invariant w in
    now_there h cs fs old w from p now f

pub pass_groups-requires-2-clause-behind : goal.pass_groups-requires-2-clause-behind
pass_groups-requires-2-clause-behind c =
    (c.stretches.invariant c.requires.level).count

pub pass_groups-requires-2-clause-ahead : goal.pass_groups-requires-2-clause-ahead
pass_groups-requires-2-clause-ahead c =
    let h = c.args.height.now in
    let cs = c.args.changes.now in
    let fs = c.args.flats.now in
    let old = c.args.kept.now in
    let w = c.requires.level in
    let from = c.stretches.from in
    let p = c.stretches.passed in
    let now = c.stretches.kept in
    let f = c.stretches.invariant w in
    let end = c.end_of-end.result in
    let ea = c.end_of-end.ensures.above ∙ ap (λ (ms : List Mark). length ms) c.deref-2.ensures.value in
    let t = to_right h cs fs old w from p now f c.stretches-test.false end c.end_of-end.ensures.below ea in
    between_at h cs fs old w from p now f end t.0

pub returns : goal.returns
returns c = λ w on of v start.
    let h = c.args.height.now in
    let cs = c.args.changes.now in
    let fs = c.args.flats.now in
    let old = c.args.kept.now in
    let from = c.stretches.from in
    let p = c.stretches.passed in
    let now = c.stretches.kept in
    let f = c.stretches.invariant w in
    let end = c.end_of-end.result in
    let ea = c.end_of-end.ensures.above ∙ ap (λ (ms : List Mark). length ms) c.deref-2.ensures.value in
    let t = to_right h cs fs old w from p now f c.stretches-test.false end c.end_of-end.ensures.below ea in
    let b = between_at h cs fs old w from p now f end t.0 in
    let new = c.pass_groups-2.new.kept in
    let q = c.in_ok-pass_groups.field-0 in
    let g = groups_done h cs fs old w from p now f end t.0 t.1 q new (c.in_ok-pass_groups.ensures.passed b)
    (c.in_ok-pass_groups.ensures.next b) in
    at_last h cs fs old w from q new g.0 c.stretches-test.false (g.1 ∙ c.end_of-end.ensures.below)
    (g.2 ∙ ea ∙ size_named old.marks.items now.marks.items f.names) on of v start
