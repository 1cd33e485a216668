-- What stands in a scope.
use Rattle.std.specs.Prelude.{ℕ, zero, suc, Bool, false, Option, Some, None, if◌then◌else◌}
use Rattle.scad_fault.specs.declared.place.Place.{Place}
use Rattle.scad_ast.specs.Tree.{Items, no_items, entry, Item, assignment, module_of, function_of, call_of, choice}
use Rattle.scad_expr.specs.Arguments.{is_statement}

abbrev pub item_place : Item → Place
item_place (assignment at name e) = at
item_place (module_of at name parameters body) = at
item_place (function_of at name parameters e) = at
item_place (call_of at percent hash name args all) = at
item_place (choice at percent hash test held other) = at

-- the statement is marked `%`
abbrev pub is_marked : Item → Bool
is_marked (call_of at percent hash name args all) = percent
is_marked (choice at percent hash test held other) = percent
is_marked _ = false

-- the item at a place of a scope
abbrev pub item_at : Items → ℕ → Option Item
item_at no_items n = None
item_at (entry i more) zero = Some i
item_at (entry i more) (suc n) = item_at more n

-- the child statement of a number, from 0
abbrev pub child_at : Items → ℕ → Option Item
child_at no_items n = None
child_at (entry i more) zero = if is_statement i then Some i else child_at more zero
child_at (entry i more) (suc n) = if is_statement i then child_at more n else child_at more (suc n)
