-- Each strand in its turn begins at the point.
use Rattle.std.proofs.Common.{set, sym, ap, ◌∙◌, arith}
use Rattle.slice_outlines.specs.declared.mark.Mark.{Mark}
use Rattle.slice_outlines.proofs.StrandStarts.{begun_none, begun_more}
use Rattle.slice_outlines.proofs.mark.begin.Goals as goal

pub marks-init : goal.marks-init
marks-init c = sym (begun_none c.args.from c.args.at c.args.marks.now.items)

pub marks-preserved : goal.marks-preserved
marks-preserved c =
    ap (λ (m : Mark). set c.marks.marks.items c.marks.i (record m { from = c.args.at })) c.index_mut.ensures.value
    ∙ begun_more c.args.from c.marks.i c.args.at c.args.marks.now.items c.marks.marks.items c.index_mut.result.now
    c.marks.auto.i (omega (arith, c.requires.to)) c.marks.invariant
