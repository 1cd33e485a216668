-- The first cell is that of the whole shape.
use Rattle.std.proofs.Common.{List, ap, ◌∙◌}
use Rattle.slice_held.specs.declared.cell.Cell.{Cell}
use Rattle.slice_held.specs.Cells.{cell_at, holds}
use Rattle.slice_held.proofs.Shown.{value_shown}
use Rattle.slice_held.proofs.kept_shape.Held.value.Goals as goal

pub returns : goal.returns
returns c shape inside shown =
    c.holds.ensures ∙ ap holds (c.cell_at.ensures ∙ ap (λ (xs : List Cell). cell_at xs 0) c.deref.ensures.value)
    ∙ value_shown shape inside c.args.self.now c.requires.ready shown
