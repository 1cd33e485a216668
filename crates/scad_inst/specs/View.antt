-- What modules of a program in memory are to the definitions.
use Rattle.std.specs.Prelude.{List, map}
use Rattle.scad_ast.specs.declared.statement.Item.{Item}
use Rattle.scad_ast.specs.declared.statement.Param.{Param}
use Rattle.scad_ast.specs.Scope.{parameter, items}
use Rattle.scad_scope.specs.Env.{Env}
use Rattle.scad_scope.specs.FrameStore.{env_at}
use Rattle.scad_inst.specs.declared.modules.Defined.{Defined}
use Rattle.scad_inst.specs.declared.modules.DefinedAt.{DefinedAt}
use Rattle.scad_members.specs.Modules.{Module, Found}

-- a module that is defined by these parameters and these items
abbrev pub definition : List Param → List Item → Module
definition params body = record { parameters = map parameter params; body = items body }

-- the module that stands there
abbrev pub module_at : Defined → Module
module_at d = definition d.params.now.items d.body.now.items

-- and the environment where its definition stands, among those of all frames
abbrev pub found_at : List Env → DefinedAt → Found
found_at envs d = record { definition = module_at d.module; home = env_at envs d.home }
