use Rattle.std.proofs.Common.{refl}
use Rattle.scad_tree.specs.View.{solid_of}
use Rattle.scad_slice.proofs.LayerDrawing.{lays_none}
use Rattle.scad_slice.proofs.layer.lay_out.Goals as goal

pub returns-in-Outlines-clause-end : goal.returns-in-Outlines-clause-end
returns-in-Outlines-clause-end g c fits =
    lays_none c.args.work.now.print.want c.args.work.now.print.settings (solid_of c.args.work.now.tree.now) c.args.layer
    c.args.loops (record { paths = c.new.result; runs = 0; supports = c.new-in-Outlines.result }) c.in-Outlines.is
    c.new.ensures.items refl c.new-in-Outlines.ensures.items
