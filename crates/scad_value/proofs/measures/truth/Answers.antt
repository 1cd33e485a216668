use Rattle.std.proofs.Common.{◌∙◌, ap, length}
use Rattle.scad_value.proofs.Rows.{truth-list, items_in}
use Rattle.std.specs.Prelude.{◌==◌}
use Rattle.scad_value.proofs.measures.truth.Goals as goal

pub returns-in-List : goal.returns-in-List
returns-in-List c = truth-list _ c.in-List.all _ c.in-List.is (c.is_empty-in-List.ensures ∙ ap (λ xs. length xs == 0)
    (items_in _ _ _ c.deref-in-List.ensures c.as_slice-in-List.ensures.value))
