-- The operation of the new cell counts it.
use Rattle.std.proofs.Common.{◌≡◌, ◌+◌, ◌-◌, ◌<◌, ◌≤◌, ℕ, true, false, List}
use Rattle.std.proofs.Common.{length, ◌⊎◌, inl, inr, ap, subst, sym, ◌∙◌, arith}
use Rattle.slice_held.specs.declared.cell.Cell.{Cell}
use Rattle.slice_held.specs.Cells.{cell_at, counting, is_told, IsRightFor}
use Rattle.slice_held.proofs.Counting.{parent_is}
use Rattle.slice_held.proofs.Sound.{parents_in, operations_in, bare_in_all, all_out, reach_in, few_in}
use Rattle.slice_held.proofs.Sound.{settled_in, owed_in, sound_in, out_in}
use Rattle.slice_held.proofs.leaf_cells.push_cell.Goals.{else-cell-gt0-via-then-cell-gt0+else-is_told, else-cell-gt0-via-else-cell-gt0}
use Rattle.slice_held.proofs.leaf_cells.push_cell.Goals as goal

pub cell_at-above-requires : goal.cell_at-above-requires
cell_at-above-requires c =
    let cell = c.args.cell in
    let r = c.requires in
    subst (λ (items : List Cell). cell.parent - 1 < length items) (sym c.deref.ensures.value)
    (reach_in c.args.cells.now.items cell r.sound r.place r.blank c.push.new.self.items c.in_ok-push.ensures.items
    (cell.parent - 1) (parent_is cell c.if-cell-gt0.true))

pub moved-requires-clause-room : goal.moved-requires-clause-room
moved-requires-clause-room c up =
    let cell = c.args.cell in
    let r = c.requires in
    few_in c.args.cells.now.items cell r.sound r.place r.blank c.push.new.self.items c.in_ok-push.ensures.items
    (cell.parent - 1) (parent_is cell c.if-cell-gt0.true) (omega (arith, c.push.new.self.ok.0)) c.cell_at-above.result
    (c.cell_at-above.ensures ∙ ap (λ (items : List Cell). cell_at items (cell.parent - 1)) c.deref.ensures.value)

pub recount-requires-clause-there : goal.recount-requires-clause-there
recount-requires-clause-there c =
    let cell = c.args.cell in
    let r = c.requires in
    reach_in c.args.cells.now.items cell r.sound r.place r.blank c.push.new.self.items c.in_ok-push.ensures.items
    (cell.parent - 1) (parent_is cell c.if-cell-gt0.true)

pub recount-requires-clause-parents : goal.recount-requires-clause-parents
recount-requires-clause-parents c =
    let r = c.requires in
    parents_in c.args.cells.now.items c.args.cell r.sound r.place r.blank c.push.new.self.items
    c.in_ok-push.ensures.items

pub recount-requires-clause-operations : goal.recount-requires-clause-operations
recount-requires-clause-operations c =
    let r = c.requires in
    operations_in c.args.cells.now.items c.args.cell r.sound r.place r.blank c.push.new.self.items
    c.in_ok-push.ensures.items

pub recount-requires-clause-right : goal.recount-requires-clause-right
recount-requires-clause-right c =
    let cell = c.args.cell in
    let r = c.requires in
    let above = c.cell_at-above.ensures ∙ ap (λ (items : List Cell). cell_at items
    (cell.parent - 1)) c.deref.ensures.value in
    subst (λ (a : Cell). IsRightFor c.push.new.self.items (cell.parent - 1) (counting c.moved.result a)) above
    (owed_in c.args.cells.now.items cell r.sound r.place r.blank c.push.new.self.items c.in_ok-push.ensures.items
    (cell.parent - 1) (parent_is cell c.if-cell-gt0.true) (counting c.moved.result c.cell_at-above.result)
    (sym c.is_told.ensures ∙ c.if-is_told.true) c.cell_at-above.result above
    (ap (λ (n : ℕ). counting n c.cell_at-above.result) c.moved.ensures))

pub returns-then-is_told-clause-sound : goal.returns-then-is_told-clause-sound
returns-then-is_told-clause-sound c =
    let cell = c.args.cell in
    let r = c.requires in
    sound_in c.args.cells.now.items cell r.sound r.place r.blank c.push.new.self.items c.in_ok-push.ensures.items
    (cell.parent - 1) (parent_is cell c.if-cell-gt0.true)
    (counting c.moved.result (cell_at c.push.new.self.items (cell.parent - 1))) c.recount.new.cells.items
    c.recount.ensures.counted
    c.recount.ensures.rest

pub returns-then-is_told-clause-out : goal.returns-then-is_told-clause-out
returns-then-is_told-clause-out c =
    let cell = c.args.cell in
    let r = c.requires in
    out_in c.args.cells.now.items cell r.sound r.place r.blank c.push.new.self.items c.in_ok-push.ensures.items
    (cell.parent - 1) (parent_is cell c.if-cell-gt0.true)
    (counting c.moved.result (cell_at c.push.new.self.items (cell.parent - 1))) r.out c.recount.new.cells.items
    c.recount.ensures.rest

pub returns-then-is_told-clause-bare : goal.returns-then-is_told-clause-bare
returns-then-is_told-clause-bare c =
    let r = c.requires in
    c.recount.ensures.rest.same
    ∙ bare_in_all c.args.cells.now.items c.args.cell r.sound r.place r.blank c.push.new.self.items
    c.in_ok-push.ensures.items

pub returns-else-cell-gt0-clause-out : goal.returns-else-cell-gt0-clause-out
returns-else-cell-gt0-clause-out c =
    let r = c.requires in
    all_out c.args.cells.now.items c.args.cell r.sound r.place r.blank c.push.new.self.items
    c.in_ok-push.ensures.items r.out

pub returns-else-cell-gt0-clause-bare : goal.returns-else-cell-gt0-clause-bare
returns-else-cell-gt0-clause-bare c =
    let r = c.requires in
    bare_in_all c.args.cells.now.items c.args.cell r.sound r.place r.blank c.push.new.self.items
    c.in_ok-push.ensures.items

pub returns-else-cell-gt0-clause-sound : goal.returns-else-cell-gt0-clause-sound
returns-else-cell-gt0-clause-sound c =
    let cell = c.args.cell in
    let r = c.requires in
    let way : (cell.parent ≡ 0) ⊎ (is_told cell ≡ false) = elim c.else-cell-gt0.branch [
      | else-cell-gt0-via-then-cell-gt0+else-is_told w ↦ inr (sym w.is_told.ensures ∙ w.if-is_told.false)
      | else-cell-gt0-via-else-cell-gt0 w ↦ inl (none cell.parent w.if-cell-gt0.false)
    ] in
    settled_in c.args.cells.now.items cell r.sound r.place r.blank c.push.new.self.items c.in_ok-push.ensures.items way
  where
    none : (p : ℕ) → p ≤ 0 → p ≡ 0
    none p l = omega arith
