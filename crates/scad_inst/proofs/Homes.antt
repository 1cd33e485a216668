-- What items define, as modules.
use Rattle.std.proofs.Common.{◌≡◌, ℕ, List, Some, None, Vec, Global, refl, ap}
use Rattle.scad_fault.specs.declared.place.Place.{Place}
use Rattle.scad_ast.specs.declared.statement.Param.{Param}
use Rattle.scad_ast.specs.declared.statement.Item.{Item, Module, Run}
use Rattle.scad_ast.specs.declared.statement.Stmt.{Stmt}
use Rattle.scad_ast.specs.declared.statement.StmtBody.{StmtBody, Call', If'}
use Rattle.scad_ast.specs.Scope.{item_of, body_of}
use Rattle.scad_ast.proofs.ScopeRows.{module_view}
use Rattle.scad_members.specs.Modules.{module_by}
use Rattle.scad_inst.specs.View.{definition}

pub not_statement : (s : Stmt) → module_by (item_of (Run s)) ≡ None
not_statement s = by s.body
  where
    by : (b : StmtBody) → module_by (body_of s.at s.percent s.hash b) ≡ None
    by (Call' word args shape all) = refl
    by (If' test shape held more other) = refl

pub a_module : (word : List ℕ) (params : Vec Param Global) (scope : Vec Item Global) (at : Place)
    → module_by (item_of (Module word params scope at)) ≡ Some (definition params.items scope.items)
a_module word params scope at = ap module_by (module_view word params scope at)

pub ruleset kinds = (not_statement, a_module)
