-- The half in which the place lies is kept.
use Rattle.std.proofs.Common.{◌+◌, ◌-◌, ◌/◌, ◌<◌, ◌≤◌, ℕ, List, length, get_or, sym, ◌∙◌, arith}
use Rattle.slice_outlines.specs.declared.mark.Mark.{Mark}
use Rattle.slice_outlines.specs.Marks.{no_mark, spot_at}
use Rattle.slice_outlines.proofs.StrandSearch.{left_true, left_false, right_behind}
use Rattle.slice_outlines.proofs.stretch.first_behind.Goals as goal

pub marks-preserved-then-is_behind : goal.marks-preserved-then-is_behind
marks-preserved-then-is_behind c =
    let h = c.args.height.now in
    let ms : List Mark = c.args.marks.now in
    let s = c.args.s.now in
    let mid : ℕ = c.marks.from + (c.marks.to - c.marks.from) / 2 in
    let low : c.marks.from ≤ mid = omega arith in
    let high : mid < c.marks.to = omega (arith, c.marks-test.true) in
    let there : mid < length ms = omega (arith, high, c.marks.invariant.bound) in
    let right = left_true s.spot (spot_at h.edges.now h.at.now (get_or ms mid no_mark))
    (sym c.is_behind.ensures ∙ c.if-is_behind.true) in
    record {
      order = low;
      bound = omega (arith, there);
      before = c.marks.invariant.before;
      behind = λ k d a b. right_behind h s.spot ms s.runs c.requires.order c.requires.pass mid k no_mark d a b right;
    }

pub marks-preserved : goal.marks-preserved
marks-preserved c =
    let h = c.args.height.now in
    let ms : List Mark = c.args.marks.now in
    let s = c.args.s.now in
    let mid : ℕ = c.marks.from + (c.marks.to - c.marks.from) / 2 in
    let low : c.marks.from ≤ mid = omega arith in
    let high : mid < c.marks.to = omega (arith, c.marks-test.true) in
    let there : mid < length ms = omega (arith, high, c.marks.invariant.bound) in
    let left = left_false s.spot (spot_at h.edges.now h.at.now (get_or ms mid no_mark))
    (sym c.is_behind.ensures ∙ c.if-is_behind.false) in
    record {
      order = omega (arith, high);
      bound = c.marks.invariant.bound;
      before = λ k d a b q. left (right_behind h s.spot ms s.runs c.requires.order c.requires.pass k mid d no_mark
          (omega (arith, b)) there q);
      behind = c.marks.invariant.behind;
    }
