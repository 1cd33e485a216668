use Rattle.std.proofs.Common.{◌∙◌, sym, ap, length}
use Rattle.plan_support.proofs.Consecutive.{length_cut}
use Rattle.plan_support.proofs.lists.Lists.len.Goals as goal

pub returns : goal.returns
returns c =
    let ends = c.self.inside.ends in
    c.len.ensures ∙ ends.ok.0 ∙ sym (length_cut 0 ends.items c.self.inside.runs.items) ∙ ap length c.self.view_is
