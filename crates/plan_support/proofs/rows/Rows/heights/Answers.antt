use Rattle.std.proofs.Common.{◌∙◌, sym, ap, map, List}
use Rattle.plan_support.specs.Rows.{Row}
use Rattle.plan_support.proofs.HeightRows.{heights_listed}
use Rattle.plan_support.proofs.rows.Rows.heights.Goals as goal

pub returns : goal.returns
returns c =
    c.as_slice.ensures.value ∙ sym (heights_listed c.self.inside.heights.items c.self.inside.lists c.self.invariant)
    ∙ ap (λ (rows : List Row). map (λ (r : Row). r.y) rows) c.self.view_is
