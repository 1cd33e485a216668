-- The values on both sides tell what leads along the height.
use Rattle.std.proofs.Common.{Bool, List, drop, false, ap, ◌∙◌}
use Rattle.scad_geom.specs.declared.point.Pt.{Pt}
use Rattle.slice_outlines.specs.declared.flat.Flat.{Flat}
use Rattle.slice_outlines.specs.Marks.{left_of_first}
use Rattle.slice_outlines.specs.Along.{course_along, least, value_over}
use Rattle.slice_outlines.proofs.stretch.beside_of.Goals as goal

pub returns-clause-flat_out : goal.returns-clause-flat_out
returns-clause-flat_out c =
    let live : List Flat = c.args.along.now.live.items in
    let above : Bool = value_over c.args.height.now c.args.along.now.run c.args.kept.now.marks.items
    c.args.run.now.above_to in
    let below : Bool = left_of_first (drop c.args.run.now.below_to c.args.height.now.below.now) false in
    c.course_along.ensures
    ∙ ap (λ (fs : List Flat). course_along (least fs) c.value_above-above.result c.value_at-below.result
    c.rounded-at.result) c.deref.ensures.value
    ∙ ap (λ (b : Bool). course_along (least live) b c.value_at-below.result c.rounded-at.result)
    c.value_above-above.ensures
    ∙ ap (λ (b : Bool). course_along (least live) above b c.rounded-at.result) c.value_at-below.ensures
    ∙ ap (λ (p : Pt). course_along (least live) above below p) c.rounded-at.ensures.value
