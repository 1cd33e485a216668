-- What an expression gives (OpenSCAD User Manual, "The OpenSCAD Language"): a value and a new state, or the first fault or
-- budget. One rule for each kind of node, in the order of the syntax tree. `env` are the frames of the place where the node
-- stands, `along` those of the `$` names along the calls. What a node holds stands one deeper than the node, and `below` says
-- what is given there.
use Rattle.std.specs.Prelude.{ℕ, zero, suc, true, false, List, [], ◌∷◌, ◌++◌, Option, Some, None, map, if◌then◌else◌, codes}
use Rattle.std.specs.List.{flat_map}
use Rattle.scad_fault.specs.declared.place.Place.{Place}
use Rattle.scad_fault.specs.declared.budget.BudgetKind.TheVariants.{Steps, Depth}
use Rattle.scad_ast.specs.declared.operator.BinOp.{BinOp}
use Rattle.scad_ast.specs.declared.operator.BinOp.TheVariants.{Or, And}
use Rattle.scad_ast.specs.Tree.{Expression, Arguments, no_arguments, argument, Elements, no_elements, element, Element, item, each, for_each, for_loop, let_element, if_element, if_else, Parameter}
use Rattle.scad_ast.specs.Tree.{undef as undef_at, boolean as boolean_at, number as number_at, string as string_at, name as name_at, vector as vector_at, range as range_at, stepped as stepped_at, unary as unary_at, binary as binary_at, choose as choose_at, index as index_at, member as member_at, call as call_at, let_in, assert_in, echo_in}
use Rattle.scad_value.specs.Datum.{Datum, undef, boolean, number, string, vector}
use Rattle.scad_value.specs.Comparison.{truth}
use Rattle.scad_value.specs.Index.{indexed}
use Rattle.scad_value.specs.Operators.{op, unary_op}
use Rattle.scad_builtin.specs.Builtin.{builtin}
use Rattle.scad_scope.specs.Names.{Names}
use Rattle.scad_scope.specs.Env.{Env, inside, frame, Children}
use Rattle.scad_machine.specs.State.{step_limit, Action, pure, ◌>>=◌, ◌>>◌, over, step, make, say}
pub use Rattle.scad_machine.specs.OpenFrames.{Opened}
use Rattle.scad_machine.specs.Variables.{variable, Bound, set, empty, within}
use Rattle.scad_machine.specs.Functions.{Found, function_named}
use Rattle.scad_machine.specs.Arguments.{given, set_all, is_given, with_children}
use Rattle.scad_machine.specs.EchoLines.{echo_line}
pub use Rattle.scad_operations.specs.Values.{operated, called_builtin, ranged, ranged_by_one, member_of, tested, asserted, judge_named, judge_variables}
use Rattle.scad_operations.specs.Runs.{items, as_elements}
use Rattle.scad_stack.specs.Places.{place, element_place}

-- ---- what stands one deeper
pub record Below : Type 0 where
  -- the value of an expression
  pub value : Env → Env → Expression → Action Datum
  -- the values so far of a vector, and behind them those that an element gives
  pub element : Env → Env → Element → List Datum → Action (List Datum)

module _ (below : Below) where
  -- ---- arguments and calls
  -- the values of arguments, left to right, behind those so far
  unfoldable pub values : Env → Env → Arguments → List Datum → Action (List Datum)
  values env along no_arguments so_far = pure so_far
  values env along (argument word e more) so_far = do
    d ← below.value env along e
    values env along more (so_far ++ d ∷ [])

  -- a missing parameter takes its default, evaluated where the definition stands with the call's `$` names, else
  -- `undef`
  unfoldable pub default_value : Env → Env → Option Expression → Action Datum
  default_value home along None = pure undef
  default_value home along (Some e) = below.value home along e

  -- the parameters that weren't given, in their order
  unfoldable pub defaults : Env → Env → Names → List Parameter → Bound → Action Bound
  defaults home along given_names [] b = pure b
  defaults home along given_names (p ∷ more) b =
      if is_given p.name given_names then defaults home along given_names more b
      else (default_value home (within along b.dollars) p.default
      >>= λ d. defaults home along given_names more (set p.name d b))

  -- the names of a call's parameters: first those that are given, then the others
  unfoldable pub bound : Env → Env → List Parameter → Arguments → List Datum → Action Bound
  bound home along parameters args found =
      let got = given (map (λ p. p.name) parameters) args found in
      defaults home along got parameters (set_all got empty)

  -- a call of a function of the program: its body's frame stands inside the environment of the definition
  unfoldable pub called_own : Env → Found → Arguments → List Datum → Action Datum
  called_own along f args found = do
    b ← bound f.home along f.function.parameters args found
    below.value (within f.home b.names) (within along b.dollars) f.function.body

  -- the program's functions go before those of the language
  unfoldable pub called : Place → List ℕ → Option Found → Env → Arguments → List Datum → Action Datum
  called at name None along args found = called_builtin at name (builtin name (as_elements found))
  called at name (Some f) along args found = called_own along f args found

  -- names are bound left to right, later ones seeing earlier ones; each has a name, as was judged before
  unfoldable pub bound_in_order : Env → Env → Arguments → Bound → Action Bound
  bound_in_order env along no_arguments b = pure b
  bound_in_order env along (argument None e more) b = bound_in_order env along more b
  bound_in_order env along (argument (Some name) e more) b = do
    d ← below.value (within env b.names) (within along b.dollars) e
    bound_in_order env along more (set name d b)

  -- ---- elements of a vector
  unfoldable pub elements : Env → Env → Elements → List Datum → Action (List Datum)
  elements env along no_elements so_far = pure so_far
  elements env along (element e more) so_far = do
    now ← below.element env along e so_far
    elements env along more now

  -- one turn for each of some values: a step at the `for`, and then what runs inside with the name set in a frame of
  -- its own
  unfoldable pub turns : Place → List ℕ → (Env → Env → List Datum → Action (List Datum)) → Env → Env
      → List Datum → List Datum → Action (List Datum)
  turns at name inner env along [] so_far = pure so_far
  turns at name inner env along (d ∷ more) so_far = do
    step at
    now ← inner (within env (set name d empty).names) (within along (set name d empty).dollars) so_far
    turns at name inner env along more now

  -- the first variable is the outermost; the values of each are evaluated anew in each turn of those before it, and see
  -- them
  unfoldable pub for_variables : Place → Arguments → Element → Env → Env → List Datum → Action (List Datum)
  for_variables at no_arguments body env along so_far = below.element env along body so_far
  for_variables at (argument None e more) body env along so_far = for_variables at more body env along so_far
  for_variables at (argument (Some name) e more) body env along so_far = do
    d ← below.value env along e
    turns at name (for_variables at more body) env along (items d) so_far

  -- `for (start; test; step)`: while the test holds, a step at the `for`, the element, and the step's names in the
  -- frame of
  -- the start's. Each turn takes a step, so the steps end before the turns do
  unfoldable pub loop_turns : ℕ → Place → Expression → Arguments → Element → Env → Env → Bound
      → List Datum → Action (List Datum)
  loop_turns zero at test steps body env along b so_far = over Steps at
  loop_turns (suc n) at test steps body env along b so_far = do
    holds ← below.value (within env b.names) (within along b.dollars) test
    (if truth holds then (do
      step at
      now ← below.element (within env b.names) (within along b.dollars) body so_far
      next ← bound_in_order env along steps b
      loop_turns n at test steps body env along next now)
        else pure so_far)

  -- ---- operands
  -- the boolean of an expression's truth
  unfoldable pub truth_of : Env → Env → Expression → Action Datum
  truth_of env along e = do
    d ← below.value env along e
    pure (boolean (truth d))

  -- the right side of `||` isn't evaluated where the left is true, that of `&&` where it is false; any other operator
  -- takes
  -- both operands
  unfoldable pub right_side : Env → Env → Place → BinOp → Datum → Expression → Action Datum
  right_side env along at Or d b = if truth d then pure (boolean true) else truth_of env along b
  right_side env along at And d b = if truth d then truth_of env along b else pure (boolean false)
  right_side env along at o d b = do
    e ← below.value env along b
    operated at (op o d e)

  -- ---- one rule for each kind of expression
  unfoldable pub node : Env → Env → Expression → Action Datum
  -- a literal is its value
  node env along (undef_at at) = pure undef
  node env along (boolean_at at b) = pure (boolean b)
  node env along (number_at at z) = pure (number z)
  node env along (string_at at chars) = pure (string chars)
  -- a name is the value of the variable
  node env along (name_at at word) = pure (variable word env along)
  -- the elements from left to right, and then the vector is made of all of them
  node env along (vector_at at all) = do
    found ← elements env along all []
    make at (vector (as_elements found))
  -- start, then end
  node env along (range_at at start end) = do
    a ← below.value env along start
    b ← below.value env along end
    pure (ranged_by_one a b)
  -- start, then step, then end
  node env along (stepped_at at start step_by end) = do
    a ← below.value env along start
    s ← below.value env along step_by
    b ← below.value env along end
    ranged at a s b
  -- the operand, and then the operator
  node env along (unary_at at o a) = do
    d ← below.value env along a
    make at (unary_op o d)
  -- the left operand, and then the right side
  node env along (binary_at at o a b) = do
    d ← below.value env along a
    right_side env along at o d b
  -- the test, and then the chosen side alone
  node env along (choose_at at test a b) = do
    d ← below.value env along test
    (if truth d then below.value env along a else below.value env along b)
  -- the value, then the index; what they give takes no steps
  node env along (index_at at a i) = do
    d ← below.value env along a
    e ← below.value env along i
    pure (indexed d e)
  node env along (member_at at a word) = do
    d ← below.value env along a
    pure (member_of word d)
  -- the arguments where the call is written, and then the function that the name has there
  node env along (call_at at word args) = do
    found ← values env along args []
    called at word (function_named word env) along args found
  -- the names in a frame of their own, and then the expression inside it
  node env along (let_in at args e) = do
    judge_named at (codes "let") args
    b ← bound_in_order env along args empty
    below.value (within env b.names) (within along b.dollars) e
  -- the arguments, the judgement, and then the expression
  node env along (assert_in at args e) = do
    found ← values env along args []
    asserted at args found
    below.value env along e
  -- the arguments, the line, and then the expression
  node env along (echo_in at args e) = do
    found ← values env along args []
    say at (echo_line args found)
    below.value env along e

  -- an expression takes a step as it begins
  unfoldable pub value_layer : Env → Env → Expression → Action Datum
  value_layer env along e = do
    step (place e)
    node env along e

  -- ---- one rule for each kind of element
  unfoldable pub element_node : Env → Env → Element → List Datum → Action (List Datum)
  -- an expression is no element of its own for steps and depth: it stands where the element does
  element_node env along (item e) so_far = do
    d ← value_layer env along e
    pure (so_far ++ d ∷ [])
  -- in place of each value of the element those that `for` would run over
  element_node env along (each at e) so_far = do
    step at
    found ← below.element env along e []
    pure (so_far ++ flat_map items found)
  element_node env along (for_each at args e) so_far = do
    step at
    judge_variables at (codes "for") args
    for_variables at args e env along so_far
  element_node env along (for_loop at starts test steps e) so_far = do
    step at
    judge_named at (codes "for") starts
    judge_named at (codes "for") steps
    b ← bound_in_order env along starts empty
    loop_turns (suc step_limit) at test steps e env along b so_far
  element_node env along (let_element at args e) so_far = do
    step at
    judge_named at (codes "let") args
    b ← bound_in_order env along args empty
    below.element (within env b.names) (within along b.dollars) e so_far
  element_node env along (if_element at test e) so_far = do
    step at
    d ← below.value env along test
    (if truth d then below.element env along e so_far else pure so_far)
  element_node env along (if_else at test e other) so_far = do
    step at
    d ← below.value env along test
    (if truth d then below.element env along e so_far else below.element env along other so_far)

-- past the limit of depth nothing is evaluated, and no step is taken
abbrev pub too_deep : Below
too_deep = record {
  value = λ env along e. over Depth (place e);
  element = λ env along e so_far. over Depth (element_place e);
}

-- what is given where so many levels of depth are left, that of the node itself counted
unfoldable pub meaning : ℕ → Below
meaning zero = too_deep
meaning (suc depth) = record { value = value_layer (meaning depth); element = element_node (meaning depth) }

-- the value of an expression
abbrev pub value : ℕ → Env → Env → Expression → Action Datum
value depth = (meaning depth).value

-- what a call opens, by the names that it sets
abbrev pub opened : Env → Env → Children → Bound → Opened
opened home along kept b = record { env = inside (frame b.names None kept) home; along = within along b.dollars }

-- the frames of a call of a function or module that is defined in the environment `home`, by arguments with
-- their values
abbrev pub bind : ℕ → Env → Env → List Parameter → Arguments → List Datum → Children → Action Opened
bind depth home along parameters args found kept =
    bound (meaning depth) home along parameters args found
    >>= λ b. pure (opened home along kept (with_children kept b))
