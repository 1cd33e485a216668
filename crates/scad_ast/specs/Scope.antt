-- The tree that statements in memory are.
use Rattle.std.specs.Prelude.{Bool, List, [], ◌∷◌, option_map, map}
use Rattle.scad_fault.specs.declared.place.Place.{Place}
use Rattle.scad_ast.specs.declared.statement.Item.{Item, Assign, Module', Function, Run', Row_of-Item, end_of-Item, more_of-Item}
use Rattle.scad_ast.specs.declared.statement.StmtBody.{StmtBody, Call', If'}
use Rattle.scad_ast.specs.declared.statement.Param.{Param}
use Rattle.scad_ast.specs.declared.statement.Program.{Program}
use Rattle.scad_ast.specs.View.{expression_of, arguments}
use Rattle.scad_ast.specs.Tree.{Parameter, Items, no_items, entry, assignment, module_of, function_of, call_of, choice}
use Rattle.scad_ast.specs.Tree.{Item as TreeItem}

abbrev pub parameter : Param → Parameter
parameter p = record { name = p.name; default = option_map expression_of p.default }

abbrev mutual
  pub item_of : Item → TreeItem
  item_of (Assign name value at) = assignment at name (expression_of value)
  item_of (Module' name params shape all at) = module_of at name (map parameter params.items) (items_of all)
  item_of (Function name params body at) = function_of at name (map parameter params.items) (expression_of body)
  item_of (Run' at percent hash body) = body_of at percent hash body

  pub items_of : {m : _} → Row_of-Item m → Items
  items_of end_of-Item = no_items
  items_of (more_of-Item i rest) = entry (item_of i) (items_of rest)

  pub body_of : Place → Bool → Bool → StmtBody → TreeItem
  body_of at percent hash (Call' name args shape all) = call_of at percent hash name (arguments args.items) (items_of all)
  body_of at percent hash (If' test s held t other) = choice at percent hash (expression_of test) (items_of held) (items_of other)

-- what a list of items is, before more of them
abbrev pub items_onto : List Item → Items → Items
items_onto [] more = more
items_onto (i ∷ all) more = entry (item_of i) (items_onto all more)

abbrev pub items : List Item → Items
items all = items_onto all no_items

-- what a program is
abbrev pub program_of : Program → Items
program_of p = items p.scope.items
