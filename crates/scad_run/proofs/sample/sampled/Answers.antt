use Rattle.std.proofs.Common.{◌∙◌, rules}
use Rattle.scad_tree.specs.View.{solid_of}
use Rattle.scad_run.proofs.SampleEnds.{sample_stops, sample_done}
use Rattle.scad_run.proofs.sample.sampled.Goals as goal

pub returns-in_err-written : goal.returns-in_err-written
returns-in_err-written g c part is =
    sample_stops c.args.n c.args.workpiece.now.settings part (solid_of c.args.workpiece.now.tree.now) _ _ _ _ (search rules)
    (c.in_err-written.ensures.carries part is)
    c.in_err-written.ensures.kept.cause (search rules)

pub returns : goal.returns
returns g c part is =
    sample_done c.args.n c.args.workpiece.now.settings part (solid_of c.args.workpiece.now.tree.now) _ _ c.in_ok-written.written
    c.from_vec.result (search rules)
    (c.in_ok-written.ensures.carries part is) (c.in_ok-written.ensures.written part is)
    (c.from_vec.ensures ∙ c.in_ok-line.ensures)
