use Rattle.std.proofs.Common.{◌∙◌, arith}
use Rattle.scad_tree.proofs.Rows.{inter_view, several_inter}
use Rattle.scad_tree.proofs.normal.intersection_of.Goals as goal

pub returns-then-len-ge2 : goal.returns-then-len-ge2
returns-then-len-ge2 c = inter_view c.args.members ∙ several_inter c.args.members.items
    (omega (arith, c.len.ensures, c.if-len-ge2.true, c.args.members.ok.0))
