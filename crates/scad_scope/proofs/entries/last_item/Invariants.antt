use Rattle.std.proofs.Common.{◌≡◌, drop, None, option_map}
use Rattle.scad_ast.specs.Scope.{item_of, items}
use Rattle.scad_scope.specs.Definitions.{last_item, word_of_kind}
use Rattle.scad_scope.proofs.entries.last_item.Given as goal

abbrev pub invariant-items : goal.invariant-items
invariant-items l = last_item (word_of_kind l.kind) l.name (option_map (λ i. item_of i.now) l.found)
    (items (drop l.item-index l.scope.items)) ≡ last_item (word_of_kind l.kind) l.name None (items l.scope.items)
