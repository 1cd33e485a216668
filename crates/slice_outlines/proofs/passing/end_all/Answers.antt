-- The edges of the strands' pieces, then that of the piece along the height.
use Rattle.std.proofs.Common.{List, ◌++◌, sym, ap, ◌∙◌, append_assoc}
use Rattle.scad_geom.specs.declared.point.Edge.{Edge}
use Rattle.slice_outlines.specs.declared.course.Course.{Course}
use Rattle.slice_outlines.specs.Passing.{courses, or_none, edges_to}
use Rattle.slice_outlines.proofs.Ending.{edges_on}
use Rattle.slice_outlines.proofs.passing.end_all.Goals as goal

pub returns-clause-given : goal.returns-clause-given
returns-clause-given c =
    let at = c.args.place.now.at in
    let given : List Edge = c.args.given.now.items in
    let own : List Course = courses c.args.place.now.below.right c.args.place.now.below.marks.now in
    let flat : List Course = or_none c.args.flat_in in
    c.in_ok-close.ensures
    ∙ ap (λ (es : List Edge). es ++ edges_to at flat) c.in_ok-end_strands.ensures
    ∙ append_assoc given (edges_to at own) (edges_to at flat)
    ∙ ap (λ (es : List Edge). given ++ es) (sym (edges_on at own flat))
