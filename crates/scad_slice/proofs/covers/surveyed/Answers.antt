use Rattle.std.proofs.Common.{None, ap}
use Rattle.std.specs.Option.{option_copied}
use Rattle.scad_tree.specs.View.{solid_of}
use Rattle.slice_work.specs.declared.want.Want.TheVariants.{Outlines}
use Rattle.scad_slice.proofs.Survey.{drawing, drawing_same, surveyed_if, over_if}
use Rattle.scad_slice.proofs.covers.surveyed.Goals as goal

pub returns-clause-rows : goal.returns-clause-rows
returns-clause-rows g c =
    let s = c.args.workpiece.now.settings in
    let tree = solid_of c.args.workpiece.now.tree.now in
    let made = c.work_on-layers.result in
    let is = c.work_on-layers.ensures in
    let given = drawing made.print.want made.print.settings (solid_of made.tree.now) (option_copied made.covers) in
    surveyed_if s tree c.args.count c.requires.counted given
    (drawing_same given (drawing Outlines s tree None) is.want is.settings (ap solid_of is.tree) is.covers)
    (λ all. all.items) c.survey.result c.are_solids.ensures c.survey.ensures.rows c.survey.ensures.each

pub returns-clause-over : goal.returns-clause-over
returns-clause-over g c budget over =
    let s = c.args.workpiece.now.settings in
    let tree = solid_of c.args.workpiece.now.tree.now in
    let made = c.work_on-layers.result in
    let is = c.work_on-layers.ensures in
    let given = drawing made.print.want made.print.settings (solid_of made.tree.now) (option_copied made.covers) in
    over_if s tree c.args.count c.requires.counted given
    (drawing_same given (drawing Outlines s tree None) is.want is.settings (ap solid_of is.tree) is.covers)
    c.are_solids.ensures budget c.requires.spaced (c.survey.ensures.over budget over)
