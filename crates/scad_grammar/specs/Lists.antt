-- The lists of the syntax tree with one more member at their end.
use Rattle.std.specs.Prelude.{ℕ, Bool, true, false, List, [], ◌∷◌, Option, if◌then◌else◌}
use Rattle.scad_fault.specs.declared.place.Place.{Place}
use Rattle.scad_ast.specs.Tree.{Expression, let_in, Arguments, no_arguments, argument, Elements, no_elements, element}
use Rattle.scad_ast.specs.Tree.{Element, item, let_element, Parameter, Items, no_items, entry, Item}

abbrev pub with_argument : Arguments → Option (List ℕ) → Expression → Arguments
with_argument no_arguments name value = argument name value no_arguments
with_argument (argument first e rest) name value = argument first e (with_argument rest name value)

abbrev pub with_element : Elements → Element → Elements
with_element no_elements last = element last no_elements
with_element (element first rest) last = element first (with_element rest last)

abbrev pub with_parameter : List Parameter → List ℕ → Option Expression → List Parameter
with_parameter [] name default = record { name = name; default = default } ∷ []
with_parameter (first ∷ rest) name default = first ∷ with_parameter rest name default

abbrev pub with_item : Items → Item → Items
with_item no_items last = entry last no_items
with_item (entry first rest) last = entry first (with_item rest last)

-- a `let` among the elements of a vector: an expression where its body is one, otherwise an element
abbrev pub let_of : Place → Arguments → Element → Element
let_of at all (item e) = item (let_in at all e)
let_of at all body = let_element at all body

-- the marks before a statement: `*`, `%`, `#`
pub record Marks : Type 0 where
  pub star : Bool
  pub percent : Bool
  pub hash : Bool

abbrev pub no_marks : Marks
no_marks = record { star = false; percent = false; hash = false }

abbrev pub starred : Marks → Marks
starred m = record m { star = true }

abbrev pub percented : Marks → Marks
percented m = record m { percent = true }

abbrev pub hashed : Marks → Marks
hashed m = record m { hash = true }

-- a statement joins its scope, unless it is marked by `*`
abbrev pub with_statement : Marks → Items → Item → Items
with_statement m all last = if m.star then all else with_item all last
