use Rattle.std.proofs.Common.{◌∙◌, arith}
use Rattle.scad_tree.proofs.Rows.{union_view, several_union}
use Rattle.scad_tree.proofs.normal.union_of.Goals as goal

pub returns-then-len-ge2 : goal.returns-then-len-ge2
returns-then-len-ge2 c = union_view c.args.parts ∙ several_union c.args.parts.items
    (omega (arith, c.len.ensures, c.if-len-ge2.true, c.args.parts.ok.0))
