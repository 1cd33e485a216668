use Rattle.std.proofs.Common.{◌≡◌, FitsSigned, List, length, get_or, sym, ap, ◌∙◌, arith, rules}
use Rattle.std.proofs.lemmas.Int.{to_z-of_z}
use Rattle.plan_support.specs.Rows.{Row, no_row}
use Rattle.plan_support.proofs.HeightRows.{row_count, row_get}
use Rattle.plan_support.proofs.rows.Rows.y.Goals as goal
use mir.Syntax.{w32}

pub index-requires : goal.index-requires
index-requires c =
    let there = c.requires in
    let heights = c.self.inside.heights in
    let told : length heights.items ≡ length c.args.self.now =
    sym (row_count heights.items c.self.inside.lists c.self.invariant) ∙ ap length c.self.view_is in
    let size = heights.ok.0 in
    omega (arith, there, told, size)

pub returns : goal.returns
returns c =
    let there = c.requires in
    let heights = c.self.inside.heights in
    let z = c.index.result.now in
    let fits : FitsSigned w32 z = search rules in
    let told : length heights.items ≡ length c.args.self.now =
    sym (row_count heights.items c.self.inside.lists c.self.invariant) ∙ ap length c.self.view_is in
    let row = row_get heights.items c.self.inside.lists c.args.i z c.self.invariant (omega (arith, there, told)) in
    let is : z ≡ (get_or c.args.self.now c.args.i no_row).y =
    c.index.ensures ∙ sym (ap (λ (r : Row). r.y) row)
    ∙ ap (λ (rows : List Row). (get_or rows c.args.i no_row).y) c.self.view_is in
    simp to_z-of_z is
