use Rattle.std.proofs.Common.{◌+◌, map, length, drop, get_or, sym, ap, ◌∙◌, arith}
use Rattle.scad_ast.specs.Scope.{items}
use Rattle.scad_bindings.proofs.Rows.{items-drop, items-drop_all}
use Rattle.scad_bindings.specs.Notes.{noted_all, placed}
use Rattle.scad_scope.specs.Definitions.{word_of_kind}
use Rattle.scad_scope.specs.Tables.{words_by}
use Rattle.scad_scope.proofs.entries.rows_of.Goals as goal

pub items-preserved : goal.items-preserved
items-preserved c =
    let all = c.args.scope.now.items in
    let i = c.items.item-index in
    let item = c.item-item.result in
    let same = c.deref-item-items.ensures.value in
    let words = words_by (word_of_kind c.args.kind) in (
      omega (arith, c.items.invariant.0),
      ap (λ rows. noted_all rows (c.items.place + 1) (words (items (drop (i + 1) all)))) c.in_ok-note.ensures
          ∙ sym (ap (λ left. noted_all (map placed c.items.rows) c.items.place (words left)) (items-drop all i item
          (omega (arith, ap length same)) (c.item-item.is ∙ ap (λ l. get_or l i item) same)))
          ∙ c.items.invariant.1,
    )

pub returns : goal.returns
returns c =
    let same = c.deref-item-items.ensures.value in
    let words = words_by (word_of_kind c.args.kind) in
    sym (ap (λ left. noted_all (map placed c.items.rows) c.items.place (words left))
    (items-drop_all c.args.scope.now.items c.items.item-index (omega (arith, ap length same))))
    ∙ c.items.invariant.1
