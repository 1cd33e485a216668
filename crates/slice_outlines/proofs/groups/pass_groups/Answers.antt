-- Group after group is passed, up to a part of the height.
use Rattle.std.proofs.Common.{◌≡◌, ◌+◌, ◌<◌, List, length, true, refl, ◌∙◌}
use Rattle.slice_bundles.specs.Bundles.{edge_at}
use Rattle.slice_sweep.specs.declared.change.Change.{Change}
use Rattle.slice_border.specs.Pieces.{passes_at}
use Rattle.slice_outlines.specs.declared.mark.Mark.{Mark}
use Rattle.slice_outlines.specs.declared.run.Run.{Run}
use Rattle.slice_outlines.proofs.Counting.{next_fits, count_more}
use Rattle.slice_outlines.proofs.GroupPassing.{all_named, size_named}
use Rattle.slice_outlines.proofs.NextGroup.{group_there}
use Rattle.slice_outlines.proofs.Passage.{past_none, past_more, has_passed, all_past, left_by, not_left_by, next_at, end_at, end_past}
use Rattle.slice_outlines.proofs.groups.pass_groups.Goals as goal

pub changes-init : goal.changes-init
changes-init c = λ w. past_none c.args.height.now c.args.changes.now c.args.limit.now c.args.kept.now
    c.args.passed.now w
    c.requires.behind

pub after-run-requires-clause-later : goal.after-run-requires-clause-later
after-run-requires-clause-later c =
    (next_fits c.args.changes.now c.changes.passed (c.changes.invariant c.requires.ahead).count c.requires.told
    c.changes-test.true).later

pub after-run-requires-clause-fits : goal.after-run-requires-clause-fits
after-run-requires-clause-fits c =
    (next_fits c.args.changes.now c.changes.passed (c.changes.invariant c.requires.ahead).count c.requires.told
    c.changes-test.true).sizes

pub pass_group-requires-clause-stands : goal.pass_group-requires-clause-stands
pass_group-requires-clause-stands c =
    let past = c.changes.invariant c.requires.ahead in
    let s = c.requires.stands in
    record { shape = s.shape; on = past.stands s.shape s.on }

pub pass_group-requires-clause-size : goal.pass_group-requires-clause-size
pass_group-requires-clause-size c =
    let past = c.changes.invariant c.requires.ahead in
    size_named c.args.kept.now.marks.items c.changes.kept.marks.items past.names ∙ c.requires.size

pub pass_group-requires-clause-group : goal.pass_group-requires-clause-group
pass_group-requires-clause-group c =
    let h = c.args.height.now in
    let ms : List Mark = c.changes.kept.marks.items in
    let cs : List Change = c.args.changes.now in
    let past = c.changes.invariant c.requires.ahead in
    let r : Run = c.after-run.result in
    let limit = c.args.limit.now in
    let left = left_by r.below_to limit.below r.above_to limit.above c.is_left.result c.is_left.ensures
    c.if-not-is_left.false in
    let next = next_at h ms cs c.changes.passed limit past.ahead r c.changes-test.true c.after-run.ensures left.0
    left.1 in
    group_there h ms cs c.changes.passed limit past.ahead next.0 r next.1

pub pass_group-requires-clause-pass_above : goal.pass_group-requires-clause-pass_above
pass_group-requires-clause-pass_above c =
    let past = c.changes.invariant c.requires.ahead in
    all_named (λ k. passes_at (edge_at c.args.height.now.edges.now k) c.args.height.now.at.now ≡ true)
    c.args.kept.now.marks.items c.changes.kept.marks.items past.names c.requires.pass_above

pub pass_group-requires-clause-there_above : goal.pass_group-requires-clause-there_above
pass_group-requires-clause-there_above c =
    let past = c.changes.invariant c.requires.ahead in
    all_named (λ k. k < length c.args.height.now.edges.now) c.args.kept.now.marks.items c.changes.kept.marks.items
    past.names c.requires.there_above

pub changes-preserved : goal.changes-preserved
changes-preserved c = λ w.
    let h = c.args.height.now in
    let ms : List Mark = c.changes.kept.marks.items in
    let cs : List Change = c.args.changes.now in
    let p = c.changes.passed in
    let past = c.changes.invariant w in
    let r : Run = c.after-run.result in
    let limit = c.args.limit.now in
    let left = left_by r.below_to limit.below r.above_to limit.above c.is_left.result c.is_left.ensures
    c.if-not-is_left.false in
    let next = next_at h ms cs p limit past.ahead r c.changes-test.true c.after-run.ensures left.0 left.1 in
    past_more h cs limit c.args.kept.now c.args.passed.now w p c.changes.kept past next.0 r next.1 c.pass_group.new.kept
    (record { count = p.count + 1; last = r }) refl next.2
    (count_more cs p r past.count c.changes-test.true c.after-run.ensures) c.in_ok-pass_group.ensures.right
    c.in_ok-pass_group.ensures.stands c.in_ok-pass_group.ensures.passed

pub returns-then-not-is_left-clause-passed : goal.returns-then-not-is_left-clause-passed
returns-then-not-is_left-clause-passed c = λ w on spots of ahead come.
    let past = c.changes.invariant w in
    let r : Run = c.after-run.result in
    let limit = c.args.limit.now in
    let end = end_at c.args.height.now c.changes.kept.marks.items c.args.changes.now c.changes.passed limit past.ahead r
    c.changes-test.true c.after-run.ensures (not_left_by r.below_to limit.below r.above_to limit.above c.is_left.result
    c.is_left.ensures c.if-not-is_left.true) in
    all_past c.args.height.now c.args.changes.now c.args.limit.now c.args.kept.now c.args.passed.now w c.changes.passed
    c.changes.kept past end on spots of ahead come

pub returns-then-not-is_left-clause-next : goal.returns-then-not-is_left-clause-next
returns-then-not-is_left-clause-next c = λ w.
    let past = c.changes.invariant w in
    let r : Run = c.after-run.result in
    let limit = c.args.limit.now in
    let end = end_at c.args.height.now c.changes.kept.marks.items c.args.changes.now c.changes.passed limit past.ahead r
    c.changes-test.true c.after-run.ensures (not_left_by r.below_to limit.below r.above_to limit.above c.is_left.result
    c.is_left.ensures c.if-not-is_left.true) in
    has_passed c.args.height.now c.args.changes.now c.args.limit.now c.args.kept.now c.args.passed.now w
    c.changes.passed
    c.changes.kept past end

pub returns-clause-passed : goal.returns-clause-passed
returns-clause-passed c = λ w on spots of ahead come.
    let past = c.changes.invariant w in
    let end = end_past c.args.height.now c.changes.kept.marks.items c.args.changes.now c.changes.passed c.args.limit.now
    past.ahead c.changes-test.false in
    all_past c.args.height.now c.args.changes.now c.args.limit.now c.args.kept.now c.args.passed.now w c.changes.passed
    c.changes.kept past end on spots of ahead come

pub returns-clause-next : goal.returns-clause-next
returns-clause-next c = λ w.
    let past = c.changes.invariant w in
    let end = end_past c.args.height.now c.changes.kept.marks.items c.args.changes.now c.changes.passed c.args.limit.now
    past.ahead c.changes-test.false in
    has_passed c.args.height.now c.args.changes.now c.args.limit.now c.args.kept.now c.args.passed.now w
    c.changes.passed
    c.changes.kept past end
