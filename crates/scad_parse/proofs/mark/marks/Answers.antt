use Rattle.std.proofs.Common.{sym, ◌∙◌}
use Rattle.scad_parse.specs.ReadingStatements.{marks_of}
use Rattle.scad_parse.proofs.rules.Statements.{mark_here, mark_fewer, marks_read}
use Rattle.scad_parse.proofs.mark.marks.Goals as goal

pub marks-preserved : goal.marks-preserved
marks-preserved c = (
  c.marks.invariant.0,
  (
    c.marks.invariant.1.0,
    rw (c.with_mark-all.ensures, c.behind-reader.ensures)
        (c.marks.invariant.1.1 ∙ mark_here (marks_of c.marks.all) c.marks.reader.left.now
        (sym c.is_mark.ensures ∙ c.marks-test.true)),
  ),
)

pub marks-smaller : goal.marks-smaller
marks-smaller c = rw c.behind-reader.ensures (mark_fewer c.marks.reader.left.now
    (sym c.is_mark.ensures ∙ c.marks-test.true))

pub returns : goal.returns
returns c = record {
  ends = c.marks.invariant.0;
  turn = marks_read (marks_of c.args.so_far) (marks_of c.marks.all) c.args.reader.now.left.now c.marks.reader.left.now
      c.args.reader.now.fault c.marks.reader.fault c.marks.invariant.1.0 c.marks.invariant.1.1
      (sym c.is_mark.ensures ∙ c.marks-test.false);
}
