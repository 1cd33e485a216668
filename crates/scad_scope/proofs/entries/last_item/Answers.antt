use Rattle.std.proofs.Common.{◌+◌, length, drop, get_or, option_map, sym, ap, ◌∙◌, arith}
use Rattle.scad_ast.specs.Scope.{item_of, items}
use Rattle.scad_bindings.proofs.Rows.{items-drop, items-drop_all}
use Rattle.scad_scope.specs.Definitions.{last_item, word_of_kind}
use Rattle.scad_scope.proofs.entries.last_item.Goals as goal

pub items-preserved : goal.items-preserved
items-preserved c =
    let all = c.args.scope.now.items in
    let i = c.items.item-index in
    let item = c.item-item.result in
    let same = c.deref-item-items.ensures.value in
    let last = last_item (word_of_kind c.args.kind) c.args.name.now in
    ap (λ found. last found (items (drop (i + 1) all))) c.defining-found.ensures
    ∙ sym (ap (last (option_map (λ f. item_of f.now) c.items.found)) (items-drop all i item
    (omega (arith, ap length same)) (c.item-item.is ∙ ap (λ l. get_or l i item) same)))
    ∙ c.items.invariant

pub returns : goal.returns
returns c =
    let same = c.deref-item-items.ensures.value in
    let last = last_item (word_of_kind c.args.kind) c.args.name.now in
    sym (ap (last (option_map (λ f. item_of f.now) c.items.found)) (items-drop_all c.args.scope.now.items
    c.items.item-index (omega (arith, ap length same))))
    ∙ c.items.invariant
