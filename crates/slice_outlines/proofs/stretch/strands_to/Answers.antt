-- One more that doesn't lie to the right of the stop.
use Rattle.std.proofs.Common.{◌<◌, ℕ, List, length, get_or, sym, ◌∙◌, subst, arith}
use Rattle.std.specs.List.{All}
use Rattle.std.proofs.lemmas.List.{get_or_default}
use Rattle.std.proofs.lemmas.List.Elements.{All-nil}
use Rattle.slice_outlines.specs.declared.mark.Mark.{Mark}
use Rattle.slice_outlines.specs.Marks.{no_mark, spot_at}
use Rattle.slice_outlines.specs.Along.{LiesRightOf}
use Rattle.slice_outlines.proofs.Parts.{part_none, all_part_more}
use Rattle.slice_outlines.proofs.StrandSearch.{left_true, left_false}
use Rattle.slice_outlines.proofs.stretch.strands_to.Goals as goal

pub strands-init : goal.strands-init
strands-init c =
    let h = c.args.height.now in
    let s = c.args.s.now in
    record {
      from = omega arith;
      to = c.requires.from;
      passed = subst (All (λ m. LiesRightOf h s m → ⊥)) (sym (part_none c.args.marks.now c.args.from))
          (All-nil (λ m. LiesRightOf h s m → ⊥));
    }

pub strands-preserved : goal.strands-preserved
strands-preserved c =
    let h = c.args.height.now in
    let s = c.args.s.now in
    let ms : List Mark = c.args.marks.now in
    let i : ℕ = c.strands.i in
    let there : i < length ms = omega (arith, c.strands-test.true, c.requires.to) in
    let left = left_false s.spot (spot_at h.edges.now h.at.now (get_or ms i no_mark))
    (sym c.is_behind.ensures ∙ c.if-is_behind.false) in
    record {
      from = omega (arith, c.strands.invariant.from);
      to = omega (arith, c.strands-test.true);
      passed = all_part_more (λ m. LiesRightOf h s m → ⊥) ms c.args.from i c.strands.invariant.from there
          c.strands.invariant.passed
          (λ d. subst (λ m. LiesRightOf h s m → ⊥) (get_or_default ms i no_mark d there) left);
    }

pub returns-then-is_behind-clause-next : goal.returns-then-is_behind-clause-next
returns-then-is_behind-clause-next c = λ l.
    let h = c.args.height.now in
    left_true c.args.s.now.spot (spot_at h.edges.now h.at.now (get_or c.args.marks.now c.strands.i no_mark))
    (sym c.is_behind.ensures ∙ c.if-is_behind.true)

pub returns-clause-next : goal.returns-clause-next
returns-clause-next c = λ l. absurd (omega (arith, l, c.strands-test.false))
