use Rattle.std.proofs.Common.{min, List, ap, ◌∙◌}
use Rattle.std.specs.Prelude.{sum_by}
use Rattle.plan_support.specs.declared.line.Line.{Line}
use Rattle.plan_support.specs.Lines.{greatest_count}
use Rattle.plan_support.proofs.StretchCount.{is_count}
use Rattle.plan_support.proofs.cover.counted.Goals as goal

pub returns : goal.returns
returns g c =
    let h = c.in_ok-work_lines.ensures in
    is_count c.args.layers.now c.args.heights.now c.in_ok-work_lines.field-0.items h.alls c.count_of.result h.are
    (c.count_of.ensures
    ∙ ap (λ (ls : List Line). min (sum_by (λ (l : Line). l.count) ls) greatest_count) c.deref.ensures.value)
