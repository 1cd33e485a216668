-- What lists in memory are to the definitions.
use Rattle.std.specs.Prelude.{ℕ, List, map}
use Rattle.scad_ast.specs.declared.expression.Expr.{Expr}
use Rattle.scad_ast.specs.declared.statement.Param.{Param}
use Rattle.scad_ast.specs.Scope.{parameter, item_of}
use Rattle.scad_ast.specs.View.{expression_of}
use Rattle.scad_scope.specs.Env.{Env}
use Rattle.scad_scope.specs.FrameStore.{env_at}
use Rattle.scad_machine.specs.declared.functions.Defined.{Defined}
use Rattle.scad_machine.specs.declared.functions.DefinedAt.{DefinedAt}
use Rattle.scad_machine.specs.declared.lookup.ItemAt.{ItemAt}
use Rattle.scad_machine.specs.declared.parameter_names.ParameterNames.{ParameterNames}
use Rattle.scad_machine.specs.declared.parameter_names.ParameterNames.TheVariants.{Few as few_names, Many as many_names}
use Rattle.scad_machine.specs.declared.parameter_values.ParameterValues.{ParameterValues}
use Rattle.scad_machine.specs.declared.parameter_values.ParameterValues.TheVariants.{Few, Many}
use Rattle.scad_machine.specs.Functions.{Function, Found}
use Rattle.scad_machine.specs.Lookup.{FoundItem}
use Rattle.scad_machine.specs.Parameters.{parameter_names, shown}
use Rattle.scad_scope.specs.Names.{Names}

-- a function that is defined by these parameters and this expression
abbrev pub function_of : List Param → Expr → Function
function_of params body = record { parameters = map parameter params; body = expression_of body }

-- the function that stands there
abbrev pub function_at : Defined → Function
function_at d = function_of d.params.now.items d.body.now

-- and the environment where its definition stands, among those of all frames
abbrev pub found_at : List Env → DefinedAt → Found
found_at envs d = record { function = function_at d.function; home = env_at envs d.home }

-- the item that stands there
abbrev pub item_found_at : List Env → ItemAt → FoundItem
item_found_at envs i = record { item = item_of i.item.now; home = env_at envs i.home }

-- the values of parameters, with their names
abbrev pub values_in : ParameterValues → Names
values_in (Few all) = map shown all.items
values_in (Many all) = map shown all

-- the names of parameters
abbrev pub names_in : ParameterNames → List (List ℕ)
names_in (few_names all) = parameter_names all.now
names_in (many_names tabled) = parameter_names tabled.params.now
