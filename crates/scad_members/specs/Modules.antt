-- Modules of a program, and the children of their calls (OpenSCAD User Manual, "User-Defined Functions and Modules").
use Rattle.std.specs.Prelude.{ℕ, List, Option, Some, None, option_map, option_and_then}
use Rattle.scad_ast.specs.Tree.{Parameter, Items, Item, module_of}
use Rattle.scad_scope.specs.Definitions.{module_word}
use Rattle.scad_scope.specs.Env.{Env, outside, inside, Children, no_children, children, children_of}
use Rattle.scad_expr.specs.Lookup.{FoundItem, item_named}

-- the parameters and the body of a module
pub record Module : Type 0 where
  pub parameters : List Parameter
  pub body : Items

-- the module that an item defines, where it defines one
abbrev pub module_by : Item → Option Module
module_by (module_of at word parameters body) = Some (record { parameters = parameters; body = body })
module_by _ = None

-- a module, and the environment where its definition stands
pub record Found : Type 0 where
  pub definition : Module
  pub home : Env

abbrev pub found_in : Env → Module → Found
found_in env m = record { definition = m; home = env }

abbrev pub module_there : FoundItem → Option Found
module_there i = option_map (found_in i.home) (module_by i.item)

-- the module of a name in the innermost scope that has one, with the frames from there on
unfoldable pub module_named : List ℕ → Env → Option Found
module_named name env = option_and_then module_there (item_named module_word name env)

-- the children that a frame has, or else others
abbrev pub kept_or : Children → Children → Children
kept_or no_children other = other
kept_or (children all env) other = children all env

-- the children of the module call whose body holds a place: those of the innermost frame that has some
unfoldable pub kept_children : Env → Children
kept_children outside = no_children
kept_children (inside f env) = kept_or (children_of f) (kept_children env)
