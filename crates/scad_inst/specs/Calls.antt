-- Calls, by what their names mean.
use Rattle.std.specs.Prelude.{ℕ, List, []}
use Rattle.scad_fault.specs.declared.fault.FaultKind.{FaultKind}
use Rattle.scad_fault.specs.declared.place.Place.{Place}
use Rattle.scad_ast.specs.Tree.{Arguments, Items}
use Rattle.scad_value.specs.Datum.{Datum}
use Rattle.scad_scope.specs.Env.{Env}
use Rattle.scad_tree.specs.Solid.{Solid}
use Rattle.scad_expr.specs.Meaning.{values, bound, Opened}
use Rattle.scad_expr.specs.State.{Action, pure, ◌>>=◌, fault_of}
use Rattle.scad_modules.specs.declared.module.Module.{Module}
use Rattle.scad_leaves.specs.declared.space.Where.{Where}
use Rattle.scad_members.specs.Meaning.{Below, called_own, called_known}
use Rattle.scad_members.specs.Modules.{Found}
use Rattle.scad_members.specs.OpenFrames.{call_opened}

module _ (below : Below) where
  -- the frames of a call of a module of the program
  unfoldable pub own_opened : Env → Env → Found → Arguments → List Datum → Items → Action Opened
  own_opened env along m args found all = do
    b ← bound below.expressions m.home along m.definition.parameters args found
    pure (call_opened m.home along all env b)

  -- a call of a module of the program, with the values of its arguments
  unfoldable pub called_with : Place → Where → Env → Env → Found → Arguments → Items → Action Solid
  called_with at w env along m args all = do
    found ← values below.expressions env along args []
    called_own below at w env along m args found all

  -- and of a module of the language
  unfoldable pub known_with : Module → Place → List ℕ → Where → Env → Env → Arguments → Items → Action Solid
  known_with k at name w env along args all = do
    found ← values below.expressions env along args []
    called_known below k at name w env along args found all

  -- a name that is refused, once its arguments were evaluated
  unfoldable pub refused_with : FaultKind → Place → List ℕ → Env → Env → Arguments → Action Solid
  refused_with kind at name env along args = do
    found ← values below.expressions env along args []
    fault_of kind at name
