use Rattle.std.proofs.Common.{◌∙◌, sym, ap, length}
use Rattle.plan_support.proofs.HeightRows.{row_count}
use Rattle.plan_support.proofs.rows.Rows.len.Goals as goal

pub returns : goal.returns
returns c =
    let heights = c.self.inside.heights in
    c.len.ensures ∙ heights.ok.0 ∙ sym (row_count heights.items c.self.inside.lists c.self.invariant)
    ∙ ap length c.self.view_is
