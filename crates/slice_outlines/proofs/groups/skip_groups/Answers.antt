-- One more change is counted, up to one that lies to the right.
use Rattle.std.proofs.Common.{◌+◌, refl}
use Rattle.slice_outlines.specs.Ahead.{between}
use Rattle.slice_outlines.proofs.Counting.{next_fits, count_more}
use Rattle.slice_outlines.proofs.Passage.{left_by, not_left_by, end_past}
use Rattle.slice_outlines.proofs.SkippedGroups.{skip_more, skip_end, all_skipped}
use Rattle.slice_outlines.proofs.groups.skip_groups.Goals as goal

pub changes-init : goal.changes-init
changes-init c = record { count = c.requires.behind; skipped = λ h ms w. (w, refl) }

pub after-run-requires-clause-later : goal.after-run-requires-clause-later
after-run-requires-clause-later c =
    (next_fits c.args.changes.now c.changes.passed c.changes.invariant.count c.requires.told c.changes-test.true).later

pub after-run-requires-clause-fits : goal.after-run-requires-clause-fits
after-run-requires-clause-fits c =
    (next_fits c.args.changes.now c.changes.passed c.changes.invariant.count c.requires.told c.changes-test.true).sizes

pub changes-preserved : goal.changes-preserved
changes-preserved c =
    let limit = c.args.limit.now in
    let r = c.after-run.result in
    record {
      count = count_more c.args.changes.now c.changes.passed r c.changes.invariant.count c.changes-test.true
          c.after-run.ensures;
      skipped = skip_more c.args.changes.now (between limit.below_to limit.above_to) c.args.passed.now c.changes.passed
          (record { count = c.changes.passed.count + 1; last = r }) r c.changes-test.true c.after-run.ensures
          (not_left_by limit.below_to r.below limit.above_to r.above c.is_right.result c.is_right.ensures
          c.if-is_right.false)
          refl refl c.changes.invariant.skipped;
    }

pub returns-then-is_right-clause-behind : goal.returns-then-is_right-clause-behind
returns-then-is_right-clause-behind c = c.changes.invariant.count

pub returns-then-is_right-clause-next : goal.returns-then-is_right-clause-next
returns-then-is_right-clause-next c = λ h ms w.
    let limit = c.args.limit.now in
    let cs = c.args.changes.now in
    let r = c.after-run.result in
    let b = c.changes.invariant.skipped h ms w in
    let right = left_by limit.below_to r.below limit.above_to r.above c.is_right.result c.is_right.ensures
    c.if-is_right.true in
    all_skipped cs limit c.args.passed.now c.changes.passed h ms w b.0 b.1
    (skip_end h ms cs c.changes.passed
    (between limit.below_to limit.above_to) b.0 r c.changes-test.true c.after-run.ensures
    right.0 right.1)

pub returns-clause-behind : goal.returns-clause-behind
returns-clause-behind c = c.changes.invariant.count

pub returns-clause-next : goal.returns-clause-next
returns-clause-next c = λ h ms w.
    let limit = c.args.limit.now in
    let cs = c.args.changes.now in
    let b = c.changes.invariant.skipped h ms w in
    all_skipped cs limit c.args.passed.now c.changes.passed h ms w b.0 b.1
    (end_past h ms cs c.changes.passed (between limit.below_to limit.above_to) b.0 c.changes-test.false)
