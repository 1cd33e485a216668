-- Functions of a program (OpenSCAD User Manual, "User-Defined Functions and Modules").
use Rattle.std.specs.Prelude.{ℕ, List, Option, Some, None, option_map, option_and_then}
use Rattle.scad_ast.specs.Tree.{Expression, Parameter, Item, function_of}
use Rattle.scad_scope.specs.Definitions.{function_word}
use Rattle.scad_scope.specs.Env.{Env}
use Rattle.scad_machine.specs.Lookup.{FoundItem, item_named}

-- the parameters and the expression of a function
pub record Function : Type 0 where
  pub parameters : List Parameter
  pub body : Expression

-- the function that an item defines, where it defines one
abbrev pub function_by : Item → Option Function
function_by (function_of at word parameters body) = Some (record { parameters = parameters; body = body })
function_by _ = None

-- a function, and the environment where its definition stands
pub record Found : Type 0 where
  pub function : Function
  pub home : Env

abbrev pub found_in : Env → Function → Found
found_in env f = record { function = f; home = env }

abbrev pub function_there : FoundItem → Option Found
function_there i = option_map (found_in i.home) (function_by i.item)

-- the function of a name in the innermost scope that has one, with the frames from there on
unfoldable pub function_named : List ℕ → Env → Option Found
function_named name env = option_and_then function_there (item_named function_word name env)
