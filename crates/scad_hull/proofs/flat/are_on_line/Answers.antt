-- The line is that of the first two points.
use Rattle.std.proofs.Common.{◌∙◌}
use Rattle.scad_hull.proofs.Lines.{others_on, few_told}
use Rattle.scad_hull.proofs.flat.are_on_line.Goals as goal

pub returns-then-points-lt2 : goal.returns-then-points-lt2
returns-then-points-lt2 c = few_told c.args.points.now c.if-points-lt2.true

pub returns-else-points-lt2 : goal.returns-else-points-lt2
returns-else-points-lt2 c =
    c.all_on.ensures
    ∙ others_on c.args.points.now c.index-points-0.result c.index-points-1.result c.if-points-lt2.false
    c.index-points-0.is c.index-points-1.is c.requires
