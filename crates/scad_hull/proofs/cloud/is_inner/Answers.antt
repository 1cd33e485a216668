-- A box lies inside where its corner of least depth does.
use Rattle.scad_hull.proofs.Boxes.{box_told}
use Rattle.scad_hull.proofs.cloud.is_inner.Goals as goal

pub returns : goal.returns
returns c = box_told c.args.normal.now c.args.a c.least_corner.result c.args.block.now c.is_inside.result
    c.least_corner.ensures.value c.is_inside.ensures
