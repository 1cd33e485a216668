use Rattle.std.proofs.Common.{◌∙◌, ap, arith}
use Rattle.scad_tree.specs.Solid.{difference, members}
use Rattle.scad_tree.specs.View.{solid_of, solids}
use Rattle.scad_tree.proofs.Rows.{diff_view, some_without}
use Rattle.scad_tree.proofs.normal.without.Goals as goal

pub returns-then-len-ge1 : goal.returns-then-len-ge1
returns-then-len-ge1 c =
    diff_view c.in_ok-first.first c.args.rest
    ∙ ap (λ n. difference (solid_of n) (members (solids c.args.rest.items))) c.in_ok-first.ensures.ok
    ∙ some_without (solid_of c.args.first) c.args.rest.items
    (omega (arith, c.len.ensures, c.if-len-ge1.true, c.args.rest.ok.0))
