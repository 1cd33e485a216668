-- Pieces of the rules of the meaning of expressions: what is left of a rule once a part of it has its value, or of a list.
use Rattle.std.specs.Prelude.{ℕ, List, [], ◌∷◌, Option, Some, None, if◌then◌else◌}
use Rattle.scad_fault.specs.declared.place.Place.{Place}
use Rattle.scad_ast.specs.Tree.{Expression, Parameter, Arguments, no_arguments, argument, Element, if_element, if_else}
use Rattle.scad_value.specs.Datum.{Datum}
use Rattle.scad_value.specs.Comparison.{truth}
use Rattle.scad_value.specs.Index.{indexed}
use Rattle.scad_scope.specs.Env.{Env}
use Rattle.scad_machine.specs.State.{Action, pure, ◌>>=◌}
use Rattle.scad_machine.specs.Variables.{Bound, set, within}
use Rattle.scad_stack.specs.Meaning.{Below, default_value, ranged, ranged_by_one}

-- the arguments from the first one on that has a name
abbrev pub named_of : Arguments → Arguments
named_of no_arguments = no_arguments
named_of (argument None e more) = named_of more
named_of (argument (Some name) e more) = argument (Some name) e more

-- an `if`, with `else` where it has one
unfoldable pub if_with : Place → Expression → Element → Option Element → Element
if_with at test e None = if_element at test e
if_with at test e (Some other) = if_else at test e other

module _ (below : Below) where
  -- the end of a range whose start has its value
  unfoldable pub range_end : Env → Env → Datum → Expression → Action Datum
  range_end env along a end = do
    b ← below.value env along end
    pure (ranged_by_one a b)

  -- the end of a range whose start and step have their values
  unfoldable pub stepped_end : Env → Env → Place → Datum → Datum → Expression → Action Datum
  stepped_end env along at a s end = do
    b ← below.value env along end
    ranged at a s b

  -- the step and the end of a range whose start has its value
  unfoldable pub step_and_end : Env → Env → Place → Datum → Expression → Expression → Action Datum
  step_and_end env along at a step_by end = do
    s ← below.value env along step_by
    stepped_end env along at a s end

  -- the side of a choice whose test has its value
  unfoldable pub side : Env → Env → Datum → Expression → Expression → Action Datum
  side env along d a b = if truth d then below.value env along a else below.value env along b

  -- the index of a value
  unfoldable pub index_of : Env → Env → Datum → Expression → Action Datum
  index_of env along d i = do
    e ← below.value env along i
    pure (indexed d e)

  -- the element of an `else`, where there is one
  abbrev pub other_element : Env → Env → Option Element → List Datum → Action (List Datum)
  other_element env along None so_far = pure so_far
  other_element env along (Some e) so_far = below.element env along e so_far

  -- the element of an `if` whose test has its value, or that of its `else`
  unfoldable pub chosen_element : Env → Env → Datum → Element → Option Element → List Datum → Action (List Datum)
  chosen_element env along d e other so_far =
      if truth d then below.element env along e so_far else other_element env along other so_far

  -- one name of a `let`
  unfoldable pub bind_one : Env → Env → Option (List ℕ) → Expression → Bound → Action Bound
  bind_one env along None e b = pure b
  bind_one env along (Some name) e b = do
    d ← below.value (within env b.names) (within along b.dollars) e
    pure (set name d b)

  -- parameters that weren't given take their defaults
  unfoldable pub defaulted : Env → Env → List Parameter → Bound → Action Bound
  defaulted home along [] b = pure b
  defaulted home along (p ∷ more) b = do
    d ← default_value below home (within along b.dollars) p.default
    defaulted home along more (set p.name d b)
