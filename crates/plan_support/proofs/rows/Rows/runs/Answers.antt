use Rattle.std.proofs.Common.{◌≡◌, List, length, get_or, sym, ap, ◌∙◌, arith, pos}
use Rattle.plan_support.specs.Rows.{Row, no_row}
use Rattle.plan_support.proofs.HeightRows.{row_count, row_get}
use Rattle.plan_support.proofs.rows.Rows.runs.Goals as goal

pub get-requires : goal.get-requires
get-requires c =
    let there = c.requires in
    let heights = c.self.inside.heights in
    let told : length heights.items ≡ length c.args.self.now =
    sym (row_count heights.items c.self.inside.lists c.self.invariant) ∙ ap length c.self.view_is in
    let as_many = c.self.invariant in
    omega (arith, there, told, as_many)

pub returns : goal.returns
returns c =
    let there = c.requires in
    let heights = c.self.inside.heights in
    let told : length heights.items ≡ length c.args.self.now =
    sym (row_count heights.items c.self.inside.lists c.self.invariant) ∙ ap length c.self.view_is in
    let row =
    row_get heights.items c.self.inside.lists c.args.i (pos 0) c.self.invariant (omega (arith, there, told)) in
    c.get.ensures ∙ sym (ap (λ (r : Row). r.runs) row)
    ∙ ap (λ (rows : List Row). (get_or rows c.args.i no_row).runs) c.self.view_is
