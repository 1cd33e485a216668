use Rattle.std.proofs.Common.{◌≡◌, length, sym, ap, ◌∙◌, arith}
use Rattle.plan_support.proofs.Consecutive.{length_cut, list_at}
use Rattle.plan_support.proofs.lists.Lists.get.Goals as goal

pub part_of-part-requires-clause-there : goal.part_of-part-requires-clause-there
part_of-part-requires-clause-there c =
    let there = c.requires in
    let told : length c.self.inside.ends.items ≡ length c.args.self.now =
    sym (length_cut 0 c.self.inside.ends.items c.self.inside.runs.items) ∙ ap length c.self.view_is in
    let here : length c.as_slice-ends.result.now ≡ length c.self.inside.ends.items =
    ap length c.as_slice-ends.ensures.value in
    omega (arith, there, told, here)

pub returns : goal.returns
returns c =
    let there = c.requires in
    let told : length c.self.inside.ends.items ≡ length c.args.self.now =
    sym (length_cut 0 c.self.inside.ends.items c.self.inside.runs.items) ∙ ap length c.self.view_is in
    let part = c.part_of-part.result in
    list_at part.start part.end c.args.i c.self.inside.ends.items c.as_slice-ends.result.now c.self.inside.runs.items
    c.as_slice-runs.result.now c.args.self.now c.self.view_is c.as_slice-ends.ensures.value
    c.as_slice-runs.ensures.value
    c.part_of-part.ensures.start c.part_of-part.ensures.end (omega (arith, there, told))
