-- The functions, or modules, of a scope in a table: each name with the place of the item that defines it last.
use Rattle.std.specs.Prelude.{ℕ, List, [], ◌∷◌, slice_get, Option, Some, None, option_map, option_and_then, if◌then◌else◌}
use Rattle.scad_ast.specs.declared.statement.Item.{Item}
use Rattle.scad_ast.specs.Scope.{item_of}
use Rattle.scad_ast.specs.Tree.{Items, no_items, entry}
use Rattle.scad_ast.specs.Tree.{Item as TreeItem}
use Rattle.scad_scope.specs.Names.{is_same_name}
use Rattle.scad_bindings.specs.Notes.{Places, noted_all}

-- of each item of a scope the name that it defines
abbrev pub words_by : (TreeItem → Option (List ℕ)) → Items → List (Option (List ℕ))
words_by word_of no_items = []
words_by word_of (entry i more) = word_of i ∷ words_by word_of more

-- the table of a scope
abbrev pub tabled : (TreeItem → Option (List ℕ)) → Items → Places
tabled word_of scope = noted_all [] 0 (words_by word_of scope)

-- the place of a name
abbrev pub place_of : List ℕ → Places → Option ℕ
place_of name [] = None
place_of name (p ∷ more) = if is_same_name name p.0 then Some p.1 else place_of name more

-- the item at a place
abbrev pub item_at : List Item → ℕ → Option TreeItem
item_at all place = option_map item_of (slice_get all place)

-- the item of a name, by a table
abbrev pub item_by : List Item → Places → List ℕ → Option TreeItem
item_by all rows name = option_and_then (item_at all) (place_of name rows)
