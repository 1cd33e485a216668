use Rattle.std.proofs.Common.{◌∙◌, ap, arith}
use Rattle.std.proofs.lemmas.Grind.{common_steps}
use Rattle.scad_tree.specs.View.{solid_of}
use Rattle.scad_tree.specs.Normal.{parts}
use Rattle.scad_tree.proofs.Rows.{both, parts_union, parts_inter, parts_diff}
use Rattle.scad_tree.proofs.normal.push_parts.Goals as goal

pub returns-in-Union : goal.returns-in-Union
returns-in-Union c =
    let told = ap (λ n. parts (solid_of n)) c.in-Union.is ∙ parts_union c.in-Union.members in
    rw told (rw (← both c.args.out.now.items c.in-Union.members.items) (grind (arith, common_steps)))

pub returns-in-Inter : goal.returns-in-Inter
returns-in-Inter c =
    let told = ap (λ n. parts (solid_of n)) c.in-Inter.is ∙ parts_inter c.in-Inter.members in
    rw told c.push-in-Inter.ensures

pub returns-in-Diff : goal.returns-in-Diff
returns-in-Diff c =
    let told = ap (λ n. parts (solid_of n)) c.in-Diff.is ∙ parts_diff c.in-Diff.first c.in-Diff.rest in
    rw told c.push-in-Diff.ensures
