-- A strand's piece gives its edge behind those of the strands to its left.
use Rattle.std.proofs.Common.{◌+◌, ℕ, List, ◌++◌, drop, sym, ap, ◌∙◌, append_assoc}
use Rattle.std.proofs.lemmas.List.{at_drop_more, at_drop_all, append-nil}
use Rattle.scad_geom.specs.declared.point.Edge.{Edge}
use Rattle.slice_outlines.specs.declared.mark.Mark.{Mark}
use Rattle.slice_outlines.specs.declared.course.Course.{Course}
use Rattle.slice_outlines.specs.Marks.{no_mark}
use Rattle.slice_outlines.specs.Passing.{courses, or_none, edges_to}
use Rattle.slice_outlines.proofs.Ending.{edges_on}
use Rattle.slice_outlines.proofs.passing.end_strands.Goals as goal

pub strands-preserved : goal.strands-preserved
strands-preserved c =
    let ms : List Mark = c.args.side.now.marks.now in
    let i : ℕ = c.strands.i in
    let own : List Course = or_none c.course_of.result in
    let later : List Course = courses c.args.side.now.right (drop (i + 1) ms) in
    let given : List Edge = c.strands.given.items in
    ap (λ (es : List Edge). es ++ edges_to c.args.at later) c.in_ok-close.ensures
    ∙ append_assoc given (edges_to c.args.at own) (edges_to c.args.at later)
    ∙ ap (λ (es : List Edge). given ++ es)
    (sym (edges_on c.args.at own later)
    ∙ ap (λ (ds : List Course). edges_to c.args.at (ds ++ later)) c.course_of.ensures
    ∙ ap (edges_to c.args.at)
    (sym (at_drop_more (courses c.args.side.now.right) ms i no_mark c.strands-test.true)))
    ∙ c.strands.invariant

pub returns : goal.returns
returns c =
    let ms : List Mark = c.args.side.now.marks.now in
    let given : List Edge = c.strands.given.items in
    sym (append-nil given)
    ∙ ap (λ (ds : List Course). given ++ edges_to c.args.at ds)
    (sym (at_drop_all (courses c.args.side.now.right) ms c.strands.i c.strands-test.false))
    ∙ c.strands.invariant
