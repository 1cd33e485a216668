-- A name that is evaluated, and a call whose one argument it is.
use Rattle.std.proofs.Common.{◌≡◌, ◌≢◌, ℕ, List, [], ◌∷◌, Some, ap}
use Rattle.scad_fault.specs.declared.place.Place.{Place}
use Rattle.scad_fault.specs.declared.budget.BudgetKind.TheVariants.{Depth}
use Rattle.scad_ast.specs.Tree.{Expression, Arguments, no_arguments, argument, name}
use Rattle.scad_scope.specs.Env.{Env}
use Rattle.scad_machine.specs.State.{State, over, step, gives, and_then}
use Rattle.scad_machine.specs.Variables.{variable}
use Rattle.scad_machine.specs.Arguments.{lone}
use Rattle.scad_stack.specs.Meaning.{Below, value, value_layer, node, values}
use Rattle.scad_stack.proofs.DepthLeft.{value_none, value_more}

-- ---- a name that is evaluated
pub name-none : (d : ℕ) (env along : Env) (at : Place) (word : List ℕ) (s : State) → d ≡ 0
    → value d env along (name at word) s ≡ over Depth at s
name-none d env along at word s none = value_none d env along (name at word) s none

pub name-more : (d : ℕ) (env along : Env) (at : Place) (word : List ℕ) (s : State) → d ≢ 0
    → value d env along (name at word) s ≡ and_then (step at s) (λ _ t. gives (variable word env along) t)
unfolding value_layer node
name-more d env along at word s some = value_more d env along (name at word) s some

pub ruleset names = (name-none, name-more)

-- ---- a call of one argument
pub values-lone : (below : Below) (env along : Env) (args : Arguments) (e : Expression) (s : State)
    → lone args ≡ Some e
    → values below env along args [] s ≡ and_then (below.value env along e s) (λ d. gives (d ∷ []))
unfolding values
values-lone below env along no_arguments e s is = cc
values-lone below env along (argument word f no_arguments) e s is = ap (λ x. and_then (below.value env along x s) (λ d. gives (d ∷ []))) (let same : f ≡ e = cc in same)
values-lone below env along (argument word f (argument word2 f2 more)) e s is = cc
