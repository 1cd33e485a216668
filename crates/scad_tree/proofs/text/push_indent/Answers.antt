use Rattle.std.proofs.Common.{◌+◌, ◌-◌, ◌++◌, ap, sym, ◌∙◌, append_assoc, codes}
use Rattle.scad_tree.specs.Text.{indent}
use Rattle.scad_tree.proofs.Lines.{indent_more}
use Rattle.scad_tree.proofs.text.push_indent.Goals as goal

pub levels-preserved : goal.levels-preserved
levels-preserved c =
    let left = indent (c.args.level - (c.levels.counter + 1)) in
    ap (λ o. o ++ left) c.in_ok-extend_from_slice.ensures.items
    ∙ append_assoc c.levels.out.items (codes "  ") left
    ∙ ap (λ t. c.levels.out.items ++ t) (sym (indent_more c.args.level c.levels.counter c.levels-test.true))
    ∙ c.levels.invariant
