-- What a name is defined as at a place of a program (OpenSCAD User Manual, "Scope of variables"): functions and modules have
-- name spaces of their own, and the innermost scope that defines the name counts.
use Rattle.std.specs.Prelude.{ℕ, List, Option, None, option_map}
use Rattle.scad_ast.specs.Tree.{Item}
use Rattle.scad_scope.specs.Definitions.{item_in}
use Rattle.scad_scope.specs.Env.{Env, outside, inside, scope_of, or_else}

-- an item, and the environment where it stands
pub record FoundItem : Type 0 where
  pub item : Item
  pub home : Env

abbrev pub stands_in : Env → Item → FoundItem
stands_in env i = record { item = i; home = env }

-- the item that defines a name in the innermost scope that has one, with the frames from there on
unfoldable pub item_named : (Item → Option (List ℕ)) → List ℕ → Env → Option FoundItem
item_named word_of name outside = None
item_named word_of name (inside f env) =
    or_else (option_map (stands_in (inside f env)) (item_in word_of name (scope_of f))) (item_named word_of name env)
