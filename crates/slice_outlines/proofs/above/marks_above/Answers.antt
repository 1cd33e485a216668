-- One more change is passed.
use Rattle.std.proofs.Common.{◌+◌, ◌++◌, List, drop, get_or, ap, ◌∙◌, arith}
use Rattle.std.proofs.lemmas.List.{take_rest}
use Rattle.slice_sweep.specs.Front.{bundles_in}
use Rattle.slice_outlines.specs.declared.mark.Mark.{Mark}
use Rattle.slice_outlines.specs.Above.{IsTold}
use Rattle.slice_outlines.proofs.Taking.{AreTakenTo, no_change, none_taken, here, one_taken, all_taken, can_take}
use Rattle.slice_outlines.proofs.above.marks_above.Goals as goal
use Rattle.slice_outlines.proofs.above.marks_above.Goals.{In_ok-passed}

pub changes-init : goal.changes-init
changes-init c = record {
  within = omega arith;
  taken = none_taken c.args.below.now (bundles_in c.args.front.now) c.args.changes.now c.in_ok-above.above.items
      c.in_ok-above.ensures.items;
}

pub push_group-requires-clause-from : goal.push_group-requires-clause-from
push_group-requires-clause-from c =
    let B = bundles_in c.args.front.now in
    let cs = c.args.changes.now in
    let i = c.changes.change-index in
    let t = c.requires.told in
    (can_take cs t.groups c.args.below.now B (get_or cs i no_change) (drop (i + 1) cs) c.changes.passed
    c.changes.above.items (here cs t.groups c.args.below.now B cs i c.changes.passed c.changes.above.items
    c.changes-test.true (c.changes.invariant.taken t))).0

pub push_group-requires-clause-below : goal.push_group-requires-clause-below
push_group-requires-clause-below c =
    let B = bundles_in c.args.front.now in
    let cs = c.args.changes.now in
    let i = c.changes.change-index in
    let t = c.requires.told in
    (can_take cs t.groups c.args.below.now B (get_or cs i no_change) (drop (i + 1) cs) c.changes.passed
    c.changes.above.items (here cs t.groups c.args.below.now B cs i c.changes.passed c.changes.above.items
    c.changes-test.true (c.changes.invariant.taken t))).1

pub push_group-requires-clause-above : goal.push_group-requires-clause-above
push_group-requires-clause-above c =
    let B = bundles_in c.args.front.now in
    let cs = c.args.changes.now in
    let i = c.changes.change-index in
    let t = c.requires.told in
    (can_take cs t.groups c.args.below.now B (get_or cs i no_change) (drop (i + 1) cs) c.changes.passed
    c.changes.above.items (here cs t.groups c.args.below.now B cs i c.changes.passed c.changes.above.items
    c.changes-test.true (c.changes.invariant.taken t))).2

next : (c : In_ok-passed) (t : IsTold c.args.below.now (bundles_in c.args.front.now) c.args.changes.now)
    → AreTakenTo c.args.changes.now t.groups c.args.below.now (bundles_in c.args.front.now)
    (drop (c.changes.change-index + 1) c.args.changes.now) c.in_ok-passed.passed c.push_group.new.above.items
next c t =
    let B = bundles_in c.args.front.now in
    let cs = c.args.changes.now in
    let i = c.changes.change-index in
    one_taken cs t.groups c.args.below.now B (get_or cs i no_change) (drop (i + 1) cs) c.changes.passed
    c.changes.above.items (here cs t.groups c.args.below.now B cs i c.changes.passed c.changes.above.items
    c.changes-test.true (c.changes.invariant.taken t)) c.in_ok-passed.passed c.push_group.new.above.items
    c.in_ok-passed.ensures.passed c.in_ok-passed.ensures.marks

pub changes-preserved : goal.changes-preserved
changes-preserved c = record { within = (next c c.requires.told).within; taken = next c }

pub returns : goal.returns
returns c t =
    all_taken c.args.changes.now t.groups c.args.below.now
    (bundles_in c.args.front.now) c.args.changes.now c.changes.change-index
    c.changes.passed c.changes.above.items c.extend_from_slice.new.self.items c.changes-test.false
    (c.changes.invariant.taken t)
    (c.in_ok-extend_from_slice.ensures.items
    ∙ ap (λ (xs : List Mark). c.changes.above.items ++ xs) (take_rest c.args.below.now c.changes.passed))
