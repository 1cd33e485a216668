-- The half in which the place lies is kept.
use Rattle.std.proofs.Common.{◌+◌, ◌-◌, ◌/◌, ◌<◌, ◌≤◌, ℕ, List, length, get_or, sym, ◌∙◌, arith}
use Rattle.slice_outlines.specs.declared.mark.Mark.{Mark}
use Rattle.slice_outlines.specs.Marks.{no_mark, spot_at}
use Rattle.slice_outlines.proofs.StrandSearch.{left_true, left_false, left_before}
use Rattle.slice_outlines.proofs.stretch.first_from.Goals as goal

pub marks-preserved-then-is_before : goal.marks-preserved-then-is_before
marks-preserved-then-is_before c =
    let h = c.args.height.now in
    let ms : List Mark = c.args.marks.now in
    let s = c.args.s.now in
    let mid : ℕ = c.marks.from + (c.marks.to - c.marks.from) / 2 in
    let low : c.marks.from ≤ mid = omega arith in
    let high : mid < c.marks.to = omega (arith, c.marks-test.true) in
    let there : mid < length ms = omega (arith, high, c.marks.invariant.bound) in
    let left = left_true (spot_at h.edges.now h.at.now (get_or ms mid no_mark)) s.spot
    (sym c.is_before.ensures ∙ c.if-is_before.true) in
    record {
      order = omega (arith, high);
      bound = c.marks.invariant.bound;
      before = λ k d a b. left_before h s.spot ms s.runs c.requires.order c.requires.pass k mid d no_mark
          (omega (arith, b)) there left;
      behind = c.marks.invariant.behind;
    }

pub marks-preserved : goal.marks-preserved
marks-preserved c =
    let h = c.args.height.now in
    let ms : List Mark = c.args.marks.now in
    let s = c.args.s.now in
    let mid : ℕ = c.marks.from + (c.marks.to - c.marks.from) / 2 in
    let low : c.marks.from ≤ mid = omega arith in
    let high : mid < c.marks.to = omega (arith, c.marks-test.true) in
    let there : mid < length ms = omega (arith, high, c.marks.invariant.bound) in
    let right = left_false (spot_at h.edges.now h.at.now (get_or ms mid no_mark)) s.spot
    (sym c.is_before.ensures ∙ c.if-is_before.false) in
    record {
      order = low;
      bound = omega (arith, there);
      before = c.marks.invariant.before;
      behind = λ k d a b q. right (left_before h s.spot ms s.runs c.requires.order c.requires.pass mid k no_mark d a
          b q);
    }
