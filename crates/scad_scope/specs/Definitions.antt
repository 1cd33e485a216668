-- The functions and modules of a scope (OpenSCAD User Manual, "User-Defined Functions and Modules", "Scope of variables"): each
-- holds in the whole scope, and the last definition of a name counts.
use Rattle.std.specs.Prelude.{ℕ, Bool, false, List, Option, Some, None, if◌then◌else◌}
use Rattle.scad_ast.specs.Tree.{Item, function_of, module_of, Items, no_items, entry}
use Rattle.scad_scope.specs.declared.kind.Kind.{Kind}
use Rattle.scad_scope.specs.declared.kind.Kind.TheVariants.{Function, Module}
use Rattle.scad_scope.specs.Names.{is_same_name}

-- the name of the function that an item defines, where it defines one
abbrev pub function_word : Item → Option (List ℕ)
function_word (function_of at word parameters body) = Some word
function_word _ = None

-- the name of the module that an item defines
abbrev pub module_word : Item → Option (List ℕ)
module_word (module_of at word parameters body) = Some word
module_word _ = None

-- the name that an item defines, among those of a kind
abbrev pub word_of_kind : Kind → Item → Option (List ℕ)
word_of_kind Function = function_word
word_of_kind Module = module_word

-- whether it is this name
abbrev pub is_word : List ℕ → Option (List ℕ) → Bool
is_word name None = false
is_word name (Some word) = is_same_name name word

-- the item, where what it defines has the name, or else another
abbrev pub defining : (Item → Option (List ℕ)) → List ℕ → Item → Option Item → Option Item
defining word_of name i other = if is_word name (word_of i) then Some i else other

-- the last item of a scope that defines the name, or else another
abbrev pub last_item : (Item → Option (List ℕ)) → List ℕ → Option Item → Items → Option Item
last_item word_of name so_far no_items = so_far
last_item word_of name so_far (entry i more) = last_item word_of name (defining word_of name i so_far) more

-- the item that a scope defines a name by
abbrev pub item_in : (Item → Option (List ℕ)) → List ℕ → Option Items → Option Item
item_in word_of name None = None
item_in word_of name (Some scope) = last_item word_of name None scope
