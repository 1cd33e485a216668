use Rattle.std.proofs.Common.{◌∙◌, ap, sym}
use Rattle.scad_tree.specs.View.{solid_of}
use Rattle.scad_tree.specs.Normal.{is_nothing}
use Rattle.scad_tree.proofs.Rows.{nothing_union, nothing_inter, nothing_diff}
use Rattle.scad_tree.proofs.normal.is_empty.Goals as goal

pub returns-in-Union : goal.returns-in-Union
returns-in-Union c = sym (ap (λ n. is_nothing (solid_of n)) c.in-Union.is ∙ nothing_union c.in-Union.field-0)

pub returns-in-Inter : goal.returns-in-Inter
returns-in-Inter c = sym (ap (λ n. is_nothing (solid_of n)) c.in-Inter.is ∙ nothing_inter c.in-Inter.field-0)

pub returns-in-Diff : goal.returns-in-Diff
returns-in-Diff c = sym (ap (λ n. is_nothing (solid_of n)) c.in-Diff.is ∙ nothing_diff c.in-Diff.field-0
    c.in-Diff.field-1)
