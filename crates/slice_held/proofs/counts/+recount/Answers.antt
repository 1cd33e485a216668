-- What is told otherwise goes on upwards.
use Rattle.std.proofs.Common.{◌≡◌, ◌<◌, ◌^◌, ◌+◌, ◌-◌, length, true, ℕ, List, subst, sym, arith, ap, ◌∙◌, set}
use Rattle.std.proofs.lemmas.List.{length-set}
use Rattle.slice_held.specs.declared.cell.Cell.{Cell}
use Rattle.slice_held.specs.Cells.{counting, moved, is_told, cell_at, IsRightFor, Recounts}
use Rattle.slice_held.proofs.Counting.{ends, below, near, few_above, some_above, goes_on, goes_on_rest, recounted, parents_kept, operations_kept}
use Rattle.slice_held.proofs.counts.+recount.Goals as goal

-- the cell with its new count is right for its place
right_next : (cells : List Cell) (at count : ℕ) (cell next : Cell) → cell ≡ cell_at cells at
    → next ≡ counting count cell → IsRightFor cells at (counting count (cell_at cells at)) → IsRightFor cells at next
right_next cells at count cell next is_cell is_next r =
    subst (IsRightFor cells at) (sym (is_next ∙ ap (counting count) is_cell)) r

pub cell_at-cell-requires : goal.cell_at-cell-requires
cell_at-cell-requires t c =
    subst (λ (items : List Cell). c.args.at < length items) (sym c.deref.ensures.value) c.requires.there

pub cell_at-above-requires : goal.cell_at-above-requires
cell_at-above-requires t c =
    let r = c.requires in
    let cells = c.args.cells.now.items in
    let at = c.args.at in
    let cell = c.cell_at-cell.result in
    let next = c.counting-next.result in
    let is_cell = c.cell_at-cell.ensures ∙ ap (λ (items : List Cell). cell_at items at) c.deref.ensures.value in
    let right = right_next cells at c.args.count cell next is_cell c.counting-next.ensures r.right in
    subst (λ (items : List Cell). cell.parent - 1 < length items) (sym c.deref-then-cell-gt0.ensures.value)
    (near cells at cell next r.there r.parents r.operations right is_cell
    (sym c.is_changed.ensures ∙ c.if-is_changed.true) c.if-cell-gt0.true)

pub moved-requires-clause-room : goal.moved-requires-clause-room
moved-requires-clause-room t c up =
    let r = c.requires in
    let cells = c.args.cells.now.items in
    let at = c.args.at in
    let cell = c.cell_at-cell.result in
    let next = c.counting-next.result in
    let is_cell = c.cell_at-cell.ensures ∙ ap (λ (items : List Cell). cell_at items at) c.deref.ensures.value in
    let right = right_next cells at c.args.count cell next is_cell c.counting-next.ensures r.right in
    let is_above = c.cell_at-above.ensures ∙ ap (λ (items : List Cell). cell_at items
    (cell.parent - 1)) c.deref-then-cell-gt0.ensures.value in
    few_above cells at cell next r.there r.parents r.operations right is_cell
    (sym c.is_changed.ensures ∙ c.if-is_changed.true) c.if-cell-gt0.true c.cell_at-above.result is_above r.few

pub moved-requires-clause-some : goal.moved-requires-clause-some
moved-requires-clause-some t c down =
    let r = c.requires in
    let cells = c.args.cells.now.items in
    let at = c.args.at in
    let cell = c.cell_at-cell.result in
    let next = c.counting-next.result in
    let is_cell = c.cell_at-cell.ensures ∙ ap (λ (items : List Cell). cell_at items at) c.deref.ensures.value in
    let right = right_next cells at c.args.count cell next is_cell c.counting-next.ensures r.right in
    let is_above = c.cell_at-above.ensures ∙ ap (λ (items : List Cell). cell_at items
    (cell.parent - 1)) c.deref-then-cell-gt0.ensures.value in
    some_above cells at cell next r.there r.parents r.operations right is_cell
    (sym c.is_changed.ensures ∙ c.if-is_changed.true) c.if-cell-gt0.true c.cell_at-above.result is_above
    (sym c.is_told.ensures ∙ down)

pub recount-requires : goal.recount-requires
recount-requires t c =
    let r = c.requires in
    let cells = c.args.cells.now.items in
    let at = c.args.at in
    let cell = c.cell_at-cell.result in
    let next = c.counting-next.result in
    let is_cell = c.cell_at-cell.ensures ∙ ap (λ (items : List Cell). cell_at items at) c.deref.ensures.value in
    let right = right_next cells at c.args.count cell next is_cell c.counting-next.ensures r.right in
    let is_above = c.cell_at-above.ensures ∙ ap (λ (items : List Cell). cell_at items
    (cell.parent - 1)) c.deref-then-cell-gt0.ensures.value in
    let changes = sym c.is_changed.ensures ∙ c.if-is_changed.true in
    let some = c.if-cell-gt0.true in
    let down = below cells at cell next r.there r.parents r.operations right is_cell changes some in
    let reach = near cells at cell next r.there r.parents r.operations right is_cell changes some in
    let few = subst (λ (n : ℕ). n < 2 ^ 63) (sym (length-set cells at next)) r.few in
    let on = goes_on cells at cell next r.there r.parents r.operations right is_cell changes some
    c.cell_at-above.result is_above c.is_told.result (counting c.moved.result c.cell_at-above.result) c.is_told.ensures
    (ap (λ (n : ℕ). counting n c.cell_at-above.result) c.moved.ensures) in (
      omega (arith, c.decreases, down),
      (
        reach,
        (
          few,
          (
            parents_kept cells at next r.there r.parents r.operations right,
            (
              operations_kept cells at next r.there r.parents r.operations right,
              subst (λ (a : Cell). IsRightFor (set cells at next) (cell.parent - 1) (counting c.moved.result a)) is_above on,
            ),
          ),
        ),
      ),
    )

pub returns-then-cell-gt0-clause-counted : goal.returns-then-cell-gt0-clause-counted
returns-then-cell-gt0-clause-counted t c = c.recount.ensures.counted

pub returns-then-cell-gt0-clause-rest : goal.returns-then-cell-gt0-clause-rest
returns-then-cell-gt0-clause-rest t c =
    let r = c.requires in
    let cells = c.args.cells.now.items in
    let at = c.args.at in
    let cell = c.cell_at-cell.result in
    let next = c.counting-next.result in
    let is_cell = c.cell_at-cell.ensures ∙ ap (λ (items : List Cell). cell_at items at) c.deref.ensures.value in
    let right = right_next cells at c.args.count cell next is_cell c.counting-next.ensures r.right in
    let is_above = c.cell_at-above.ensures ∙ ap (λ (items : List Cell). cell_at items
    (cell.parent - 1)) c.deref-then-cell-gt0.ensures.value in
    let changes = sym c.is_changed.ensures ∙ c.if-is_changed.true in
    subst (λ (n : Cell). Recounts at n cells c.recount.new.cells.items)
    (c.counting-next.ensures ∙ ap (counting c.args.count) is_cell)
    (goes_on_rest cells at cell next r.there r.parents r.operations right is_cell changes c.if-cell-gt0.true
    c.cell_at-above.result is_above
    (counting c.moved.result (cell_at (set cells at next) (cell.parent - 1))) c.recount.new.cells.items
    c.recount.ensures.rest)

pub returns-else-is_changed-clause-counted : goal.returns-else-is_changed-clause-counted
returns-else-is_changed-clause-counted t c =
    let r = c.requires in
    let cells = c.args.cells.now.items in
    let cell = c.cell_at-cell.result in
    let next = c.counting-next.result in
    let is_cell = c.cell_at-cell.ensures ∙ ap (λ (items : List Cell). cell_at items c.args.at) c.deref.ensures.value in
    ends cells c.args.at cell next r.there r.parents r.operations
    (right_next cells c.args.at c.args.count cell next is_cell c.counting-next.ensures r.right) is_cell
    c.is_changed.result c.is_changed.ensures c.else-is_changed.either

pub returns-else-is_changed-clause-rest : goal.returns-else-is_changed-clause-rest
returns-else-is_changed-clause-rest t c =
    let r = c.requires in
    let cells = c.args.cells.now.items in
    let cell = c.cell_at-cell.result in
    let next = c.counting-next.result in
    let is_cell = c.cell_at-cell.ensures ∙ ap (λ (items : List Cell). cell_at items c.args.at) c.deref.ensures.value in
    subst (λ (n : Cell). Recounts c.args.at n cells (set cells c.args.at next))
    (c.counting-next.ensures ∙ ap (counting c.args.count) is_cell)
    (recounted cells c.args.at next r.there r.parents r.operations
    (right_next cells c.args.at c.args.count cell next is_cell c.counting-next.ensures r.right))
