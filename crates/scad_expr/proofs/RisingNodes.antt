-- No rule takes steps back or passes their limit, where what stands one deeper doesn't.
use Rattle.std.proofs.Common.{ℕ, zero, suc, true, false, List, [], ◌∷◌, ◌++◌, map, Option, Some, None, codes}
use Rattle.std.specs.List.{flat_map}
use Rattle.scad_fault.specs.declared.place.Place.{Place}
use Rattle.scad_ast.specs.declared.operator.BinOp.{BinOp}
use Rattle.scad_ast.specs.declared.operator.BinOp.TheVariants.{Or, And, Eq, Ne, Lt, Le, Gt, Ge, Add, Sub, Mul, Div, Rem}
use Rattle.scad_ast.specs.Tree.{Expression, Arguments, no_arguments, argument, Elements, no_elements, element, Element, item, each, for_each, for_loop, let_element, if_element, if_else, Parameter}
use Rattle.scad_ast.specs.Tree.{undef as undef_at, boolean as boolean_at, number as number_at, string as string_at, name as name_at, vector as vector_at, range as range_at, stepped as stepped_at, unary as unary_at, binary as binary_at, choose as choose_at, index as index_at, member as member_at, call as call_at, let_in, assert_in, echo_in}
use Rattle.scad_value.specs.Datum.{Datum, undef, boolean, number, string, vector}
use Rattle.scad_value.specs.Comparison.{truth}
use Rattle.scad_value.specs.Index.{indexed}
use Rattle.scad_value.specs.Operators.{op, unary_op}
use Rattle.scad_builtin.specs.Builtin.{builtin}
use Rattle.scad_scope.specs.Names.{Names}
use Rattle.scad_scope.specs.Env.{Env}
use Rattle.scad_machine.specs.State.{step_limit, Action, ◌>>=◌}
use Rattle.scad_stack.specs.Places.{place}
use Rattle.scad_machine.specs.Variables.{variable, Bound, set, empty, within}
use Rattle.scad_machine.specs.Functions.{Found, function_named}
use Rattle.scad_operations.specs.Runs.{items, as_elements}
use Rattle.scad_machine.specs.Arguments.{given, set_all, is_given}
use Rattle.scad_machine.specs.EchoLines.{echo_line}
use Rattle.scad_stack.specs.Meaning.{Below, operated, ranged_by_one, member_of, values, default_value, defaults, bound, called_own, called, bound_in_order, elements, turns, for_variables, loop_turns, truth_of, right_side, node, value_layer, element_node}
use Rattle.scad_expr.proofs.Rising.{Rising, rising-then, rising-if, rising-pure, rising-step, rising-steps, rising-make, rising-say, rising-operated, rising-builtin, rising-ranged, rising-asserted, rising-judged, rising-variables}

module _ (below : Below) (v : (env along : Env) (e : Expression) → Rising (below.value env along e)) (el : (env along : Env) (e : Element) (so_far : List Datum) → Rising (below.element env along e so_far)) where
  rising-values : (env along : Env) (args : Arguments) (so_far : List Datum)
      → Rising (values below env along args so_far)
  unfolding values
  rising-values env along no_arguments so_far = rising-pure so_far
  rising-values env along (argument word e more) so_far =
      rising-then _ _ (v env along e) (λ d. rising-values env along more (so_far ++ d ∷ []))

  rising-default : (home along : Env) (default : Option Expression) → Rising (default_value below home along default)
  unfolding default_value
  rising-default home along None = rising-pure undef
  rising-default home along (Some e) = v home along e

  rising-defaults : (home along : Env) (given_names : Names) (all : List Parameter) (b : Bound)
      → Rising (defaults below home along given_names all b)
  unfolding defaults
  rising-defaults home along given_names [] b = rising-pure b
  rising-defaults home along given_names (p ∷ more) b =
      rising-if (is_given p.name given_names) _ _ (rising-defaults home along given_names more b)
      (rising-then _ _ (rising-default home (within along b.dollars) p.default) (λ d. rising-defaults home along
      given_names more (set p.name d b)))

  rising-bound : (home along : Env) (parameters : List Parameter) (args : Arguments) (found : List Datum)
      → Rising (bound below home along parameters args found)
  unfolding bound
  rising-bound home along parameters args found =
      rising-defaults home along (given (map (λ p. p.name) parameters) args found) parameters
      (set_all (given (map (λ p. p.name) parameters) args found) empty)

  rising-called : (at : Place) (name : List ℕ) (f : Option Found) (along : Env) (args : Arguments)
      (found : List Datum)
      → Rising (called below at name f along args found)
  unfolding called called_own
  rising-called at name None along args found = rising-builtin at name (builtin name (as_elements found))
  rising-called at name (Some f) along args found =
      rising-then _ _ (rising-bound f.home along f.function.parameters args found)
      (λ b. v (within f.home b.names) (within along b.dollars) f.function.body)

  pub rising-bound_in_order : (env along : Env) (args : Arguments) (b : Bound)
      → Rising (bound_in_order below env along args b)
  unfolding bound_in_order
  rising-bound_in_order env along no_arguments b = rising-pure b
  rising-bound_in_order env along (argument None e more) b = rising-bound_in_order env along more b
  rising-bound_in_order env along (argument (Some name) e more) b =
      rising-then _ _ (v (within env b.names) (within along b.dollars) e) (λ d. rising-bound_in_order env along more
      (set name d b))

  rising-elements : (env along : Env) (all : Elements) (so_far : List Datum)
      → Rising (elements below env along all so_far)
  unfolding elements
  rising-elements env along no_elements so_far = rising-pure so_far
  rising-elements env along (element e more) so_far =
      rising-then _ _ (el env along e so_far) (λ now. rising-elements env along more now)

  rising-turns : (at : Place) (name : List ℕ) (inner : Env → Env → List Datum → Action (List Datum))
      → ((env along : Env) (so_far : List Datum) → Rising (inner env along so_far))
      → (env along : Env) (all so_far : List Datum) → Rising (turns below at name inner env along all so_far)
  unfolding turns
  rising-turns at name inner r env along [] so_far = rising-pure so_far
  rising-turns at name inner r env along (d ∷ more) so_far =
      rising-then _ _ (rising-step at) (λ _. rising-then _ _
      (r (within env (set name d empty).names) (within along (set name d empty).dollars) so_far)
      (λ now. rising-turns at name inner r env along more now))

  rising-for : (at : Place) (args : Arguments) (body : Element) (env along : Env) (so_far : List Datum)
      → Rising (for_variables below at args body env along so_far)
  unfolding for_variables
  rising-for at no_arguments body env along so_far = el env along body so_far
  rising-for at (argument None e more) body env along so_far = rising-for at more body env along so_far
  rising-for at (argument (Some name) e more) body env along so_far =
      rising-then _ _ (v env along e)
      (λ d. rising-turns at name (for_variables below at more body) (rising-for at more body) env along (items d)
      so_far)

  rising-loop : (n : ℕ) (at : Place) (test : Expression) (steps : Arguments) (body : Element) (env along : Env)
      (b : Bound) (so_far : List Datum) → Rising (loop_turns below n at test steps body env along b so_far)
  unfolding loop_turns
  rising-loop zero at test steps body env along b so_far = rising-steps (List Datum) at
  rising-loop (suc n) at test steps body env along b so_far =
      rising-then _ _ (v (within env b.names) (within along b.dollars) test) (λ holds. rising-if (truth holds) _ _
      (rising-then _ _ (rising-step at) (λ _. rising-then _ _ (el (within env b.names) (within along b.dollars) body
      so_far)
      (λ now. rising-then _ _ (rising-bound_in_order env along steps b) (λ next. rising-loop n at test steps body env
      along next now))))
      (rising-pure so_far))

  rising-truth : (env along : Env) (e : Expression) → Rising (truth_of below env along e)
  unfolding truth_of
  rising-truth env along e = rising-then _ _ (v env along e) (λ d. rising-pure (boolean (truth d)))

  rising-operator : (env along : Env) (at : Place) (o : BinOp) (d : Datum) (b : Expression)
      → Rising (below.value env along b >>= λ e. operated at (op o d e))
  rising-operator env along at o d b = rising-then _ _ (v env along b) (λ e. rising-operated at (op o d e))

  rising-right : (env along : Env) (at : Place) (o : BinOp) (d : Datum) (b : Expression)
      → Rising (right_side below env along at o d b)
  unfolding right_side
  rising-right env along at Or d b = rising-if (truth d) _ _ (rising-pure (boolean true)) (rising-truth env along b)
  rising-right env along at And d b = rising-if (truth d) _ _ (rising-truth env along b) (rising-pure (boolean false))
  rising-right env along at Eq d b = rising-operator env along at Eq d b
  rising-right env along at Ne d b = rising-operator env along at Ne d b
  rising-right env along at Lt d b = rising-operator env along at Lt d b
  rising-right env along at Le d b = rising-operator env along at Le d b
  rising-right env along at Gt d b = rising-operator env along at Gt d b
  rising-right env along at Ge d b = rising-operator env along at Ge d b
  rising-right env along at Add d b = rising-operator env along at Add d b
  rising-right env along at Sub d b = rising-operator env along at Sub d b
  rising-right env along at Mul d b = rising-operator env along at Mul d b
  rising-right env along at Div d b = rising-operator env along at Div d b
  rising-right env along at Rem d b = rising-operator env along at Rem d b

  rising-node : (env along : Env) (e : Expression) → Rising (node below env along e)
  unfolding node
  rising-node env along (undef_at at) = rising-pure undef
  rising-node env along (boolean_at at b) = rising-pure (boolean b)
  rising-node env along (number_at at z) = rising-pure (number z)
  rising-node env along (string_at at chars) = rising-pure (string chars)
  rising-node env along (name_at at word) = rising-pure (variable word env along)
  rising-node env along (vector_at at all) =
      rising-then _ _ (rising-elements env along all []) (λ found. rising-make at (vector (as_elements found)))
  rising-node env along (range_at at start end) =
      rising-then _ _ (v env along start) (λ a. rising-then _ _ (v env along end)
      (λ b. rising-pure (ranged_by_one a b)))
  rising-node env along (stepped_at at start step_by end) =
      rising-then _ _ (v env along start) (λ a. rising-then _ _ (v env along step_by)
      (λ s. rising-then _ _ (v env along end) (λ b. rising-ranged at a s b)))
  rising-node env along (unary_at at o a) = rising-then _ _ (v env along a) (λ d. rising-make at (unary_op o d))
  rising-node env along (binary_at at o a b) = rising-then _ _ (v env along a) (λ d. rising-right env along at o d b)
  rising-node env along (choose_at at test a b) =
      rising-then _ _ (v env along test) (λ d. rising-if (truth d) _ _ (v env along a) (v env along b))
  rising-node env along (index_at at a i) =
      rising-then _ _ (v env along a) (λ d. rising-then _ _ (v env along i) (λ e. rising-pure (indexed d e)))
  rising-node env along (member_at at a word) = rising-then _ _ (v env along a) (λ d. rising-pure (member_of word d))
  rising-node env along (call_at at word args) =
      rising-then _ _ (rising-values env along args []) (λ found. rising-called at word (function_named word env) along
      args found)
  rising-node env along (let_in at args e) =
      rising-then _ _ (rising-judged at (codes "let") args)
      (λ _. rising-then _ _ (rising-bound_in_order env along args empty)
      (λ b. v (within env b.names) (within along b.dollars) e))
  rising-node env along (assert_in at args e) =
      rising-then _ _ (rising-values env along args []) (λ found. rising-then _ _ (rising-asserted at args found)
      (λ _. v env along e))
  rising-node env along (echo_in at args e) =
      rising-then _ _ (rising-values env along args [])
      (λ found. rising-then _ _ (rising-say at (echo_line args found))
      (λ _. v env along e))

  pub rising-layer : (env along : Env) (e : Expression) → Rising (value_layer below env along e)
  unfolding value_layer
  rising-layer env along e = rising-then _ _ (rising-step (place e)) (λ _. rising-node env along e)

  pub rising-element : (env along : Env) (e : Element) (so_far : List Datum)
      → Rising (element_node below env along e so_far)
  unfolding element_node
  rising-element env along (item e) so_far = rising-then _ _ (rising-layer env along e)
      (λ d. rising-pure (so_far ++ d ∷ []))
  rising-element env along (each at e) so_far =
      rising-then _ _ (rising-step at) (λ _. rising-then _ _ (el env along e [])
      (λ found. rising-pure (so_far ++ flat_map items found)))
  rising-element env along (for_each at args e) so_far =
      rising-then _ _ (rising-step at) (λ _. rising-then _ _ (rising-variables at (codes "for") args)
      (λ _. rising-for at args e env along so_far))
  rising-element env along (for_loop at starts test steps e) so_far =
      rising-then _ _ (rising-step at) (λ _. rising-then _ _ (rising-judged at (codes "for") starts)
      (λ _. rising-then _ _ (rising-judged at (codes "for") steps)
      (λ _. rising-then _ _ (rising-bound_in_order env along starts empty) (λ b. rising-loop (suc step_limit) at test
      steps e env along b so_far))))
  rising-element env along (let_element at args e) so_far =
      rising-then _ _ (rising-step at) (λ _. rising-then _ _ (rising-judged at (codes "let") args)
      (λ _. rising-then _ _ (rising-bound_in_order env along args empty)
      (λ b. el (within env b.names) (within along b.dollars) e so_far)))
  rising-element env along (if_element at test e) so_far =
      rising-then _ _ (rising-step at) (λ _. rising-then _ _ (v env along test)
      (λ d. rising-if (truth d) _ _ (el env along e so_far) (rising-pure so_far)))
  rising-element env along (if_else at test e other) so_far =
      rising-then _ _ (rising-step at) (λ _. rising-then _ _ (v env along test)
      (λ d. rising-if (truth d) _ _ (el env along e so_far) (el env along other so_far)))
