-- Each rule of expressions keeps this, where what stands one deeper does: refusals are of the source, and no count
-- falls or passes its limit.
use Rattle.std.proofs.Common.{ℕ, zero, suc, true, false, List, [], ◌∷◌, ◌++◌, map, Option, Some, None, codes}
use Rattle.std.specs.List.{flat_map}
use Rattle.scad_fault.specs.declared.place.Place.{Place}
use Rattle.scad_fault.specs.declared.budget.BudgetKind.TheVariants.{Steps, Depth}
use Rattle.scad_ast.specs.declared.operator.BinOp.{BinOp}
use Rattle.scad_ast.specs.declared.operator.BinOp.TheVariants.{Or, And, Eq, Ne, Lt, Le, Gt, Ge, Add, Sub, Mul, Div, Rem}
use Rattle.scad_ast.specs.Tree.{Expression, Arguments, no_arguments, argument, Elements, no_elements, element}
use Rattle.scad_ast.specs.Tree.{Parameter}
use Rattle.scad_ast.specs.Tree.{Element, item, each, for_each, for_loop, let_element, if_element, if_else}
use Rattle.scad_ast.specs.Tree.{undef as undef_at, boolean as boolean_at, number as number_at, string as string_at}
use Rattle.scad_ast.specs.Tree.{name as name_at, vector as vector_at, range as range_at, stepped as stepped_at}
use Rattle.scad_ast.specs.Tree.{unary as unary_at, binary as binary_at, choose as choose_at, index as index_at}
use Rattle.scad_ast.specs.Tree.{member as member_at, call as call_at, let_in, assert_in, echo_in}
use Rattle.scad_value.specs.Datum.{Datum, undef, boolean, number, string, vector}
use Rattle.scad_value.specs.Comparison.{truth}
use Rattle.scad_value.specs.Index.{indexed}
use Rattle.scad_value.specs.Operators.{op, unary_op}
use Rattle.scad_builtin.specs.Builtin.{builtin}
use Rattle.scad_scope.specs.Names.{Names}
use Rattle.scad_scope.specs.Env.{Env}
use Rattle.scad_expr.specs.State.{step_limit, Action, ◌>>=◌}
use Rattle.scad_expr.specs.Places.{place, element_place}
use Rattle.scad_expr.specs.Variables.{variable, Bound, set, empty, within}
use Rattle.scad_expr.specs.Functions.{Found, function_named}
use Rattle.scad_expr.specs.Runs.{items, as_elements}
use Rattle.scad_expr.specs.Arguments.{given, set_all, is_given}
use Rattle.scad_expr.specs.EchoLines.{echo_line}
use Rattle.scad_expr.specs.Meaning.{Below, meaning, values, default_value, defaults}
use Rattle.scad_expr.specs.Values.{operated, ranged_by_one, member_of}
use Rattle.scad_expr.specs.Meaning.{bound, called_own, called, bound_in_order, elements, turns, for_variables}
use Rattle.scad_expr.specs.Meaning.{loop_turns}
use Rattle.scad_expr.specs.Meaning.{truth_of, right_side, node, value_layer, element_node}
use Rattle.meaning_laws.proofs.Operators.{operates-op}
use Rattle.meaning_laws.proofs.Builtins.{computes-builtin}
use Rattle.meaning_laws.proofs.Keeping.{Any, Keeps, bind, either, keeps-pure, keeps-over, keeps-step, keeps-make}
use Rattle.meaning_laws.proofs.Keeping.{keeps-say}
use Rattle.meaning_laws.proofs.Results.{keeps-operated, keeps-builtin, keeps-ranged, keeps-asserted, keeps-judge_named}
use Rattle.meaning_laws.proofs.Results.{keeps-judge_variables}

-- all that stands one deeper does so
pub record AllKeep (below : Below) : Type 0 where
  pub value : (env along : Env) (e : Expression) → Keeps Any (below.value env along e)
  pub element : (env along : Env) (e : Element) (so_far : List Datum) → Keeps Any (below.element env along e so_far)

module _ (below : Below) (all_keep : AllKeep below) where
  -- ---- arguments and calls
  pub keeps-values : (env along : Env) (args : Arguments) (so_far : List Datum)
      → Keeps Any (values below env along args so_far)
  unfolding values
  keeps-values env along no_arguments so_far = keeps-pure so_far tt
  keeps-values env along (argument word e more) so_far =
      bind (all_keep.value env along e) (λ d _. keeps-values env along more (so_far ++ d ∷ []))

  keeps-default : (home along : Env) (default : Option Expression) → Keeps Any (default_value below home along default)
  unfolding default_value
  keeps-default home along None = keeps-pure undef tt
  keeps-default home along (Some e) = all_keep.value home along e

  keeps-defaults : (home along : Env) (names : Names) (all : List Parameter) (b : Bound)
      → Keeps Any (defaults below home along names all b)
  unfolding defaults
  keeps-defaults home along names [] b = keeps-pure b tt
  keeps-defaults home along names (p ∷ more) b =
      either (is_given p.name names) (keeps-defaults home along names more b)
      (bind (keeps-default home (within along b.dollars) p.default)
      (λ d _. keeps-defaults home along names more (set p.name d b)))

  pub keeps-bound : (home along : Env) (parameters : List Parameter) (args : Arguments) (found : List Datum)
      → Keeps Any (bound below home along parameters args found)
  unfolding bound
  keeps-bound home along parameters args found =
      let got = given (map (λ p. p.name) parameters) args found in
      keeps-defaults home along got parameters (set_all got empty)

  keeps-called : (at : Place) (name : List ℕ) (f : Option Found) (along : Env) (args : Arguments) (found : List Datum)
      → Keeps Any (called below at name f along args found)
  unfolding called called_own
  keeps-called at name None along args found =
      keeps-builtin at name (builtin name (as_elements found)) (computes-builtin name (as_elements found))
  keeps-called at name (Some f) along args found =
      bind (keeps-bound f.home along f.function.parameters args found)
      (λ b _. all_keep.value (within f.home b.names) (within along b.dollars) f.function.body)

  pub keeps-bound_in_order : (env along : Env) (args : Arguments) (b : Bound)
      → Keeps Any (bound_in_order below env along args b)
  unfolding bound_in_order
  keeps-bound_in_order env along no_arguments b = keeps-pure b tt
  keeps-bound_in_order env along (argument None e more) b = keeps-bound_in_order env along more b
  keeps-bound_in_order env along (argument (Some name) e more) b =
      bind (all_keep.value (within env b.names) (within along b.dollars) e)
      (λ d _. keeps-bound_in_order env along more (set name d b))

  -- ---- elements of a vector
  keeps-elements : (env along : Env) (all : Elements) (so_far : List Datum)
      → Keeps Any (elements below env along all so_far)
  unfolding elements
  keeps-elements env along no_elements so_far = keeps-pure so_far tt
  keeps-elements env along (element e more) so_far =
      bind (all_keep.element env along e so_far) (λ now _. keeps-elements env along more now)

  keeps-turns : (at : Place) (name : List ℕ) (inner : Env → Env → List Datum → Action (List Datum))
      → ((env along : Env) (so_far : List Datum) → Keeps Any (inner env along so_far))
      → (env along : Env) (all so_far : List Datum) → Keeps Any (turns below at name inner env along all so_far)
  unfolding turns
  keeps-turns at name inner keeps env along [] so_far = keeps-pure so_far tt
  keeps-turns at name inner keeps env along (d ∷ more) so_far =
      bind (keeps-step at) (λ _ _.
      bind (keeps (within env (set name d empty).names) (within along (set name d empty).dollars) so_far)
      (λ now _. keeps-turns at name inner keeps env along more now))

  keeps-for : (at : Place) (args : Arguments) (body : Element) (env along : Env) (so_far : List Datum)
      → Keeps Any (for_variables below at args body env along so_far)
  unfolding for_variables
  keeps-for at no_arguments body env along so_far = all_keep.element env along body so_far
  keeps-for at (argument None e more) body env along so_far = keeps-for at more body env along so_far
  keeps-for at (argument (Some name) e more) body env along so_far =
      bind (all_keep.value env along e) (λ d _.
      keeps-turns at name (for_variables below at more body) (keeps-for at more body) env along (items d) so_far)

  keeps-loop : (n : ℕ) (at : Place) (test : Expression) (steps : Arguments) (body : Element) (env along : Env)
      (b : Bound) (so_far : List Datum) → Keeps Any (loop_turns below n at test steps body env along b so_far)
  unfolding loop_turns
  keeps-loop zero at test steps body env along b so_far = keeps-over Steps at
  keeps-loop (suc n) at test steps body env along b so_far =
      bind (all_keep.value (within env b.names) (within along b.dollars) test) (λ holds _. either (truth holds)
      (bind (keeps-step at) (λ _ _.
      bind (all_keep.element (within env b.names) (within along b.dollars) body so_far) (λ now _.
      bind (keeps-bound_in_order env along steps b) (λ next _.
      keeps-loop n at test steps body env along next now))))
      (keeps-pure so_far tt))

  -- ---- operands
  keeps-truth : (env along : Env) (e : Expression) → Keeps Any (truth_of below env along e)
  unfolding truth_of
  keeps-truth env along e = bind (all_keep.value env along e) (λ d _. keeps-pure (boolean (truth d)) tt)

  keeps-operator : (env along : Env) (at : Place) (o : BinOp) (d : Datum) (b : Expression)
      → Keeps Any (below.value env along b >>= λ e. operated at (op o d e))
  keeps-operator env along at o d b =
      bind (all_keep.value env along b) (λ e _. keeps-operated at (op o d e) (operates-op o d e))

  keeps-right : (env along : Env) (at : Place) (o : BinOp) (d : Datum) (b : Expression)
      → Keeps Any (right_side below env along at o d b)
  unfolding right_side
  keeps-right env along at Or d b = either (truth d) (keeps-pure (boolean true) tt) (keeps-truth env along b)
  keeps-right env along at And d b = either (truth d) (keeps-truth env along b) (keeps-pure (boolean false) tt)
  keeps-right env along at Eq d b = keeps-operator env along at Eq d b
  keeps-right env along at Ne d b = keeps-operator env along at Ne d b
  keeps-right env along at Lt d b = keeps-operator env along at Lt d b
  keeps-right env along at Le d b = keeps-operator env along at Le d b
  keeps-right env along at Gt d b = keeps-operator env along at Gt d b
  keeps-right env along at Ge d b = keeps-operator env along at Ge d b
  keeps-right env along at Add d b = keeps-operator env along at Add d b
  keeps-right env along at Sub d b = keeps-operator env along at Sub d b
  keeps-right env along at Mul d b = keeps-operator env along at Mul d b
  keeps-right env along at Div d b = keeps-operator env along at Div d b
  keeps-right env along at Rem d b = keeps-operator env along at Rem d b

  -- ---- one rule for each kind of expression
  keeps-node : (env along : Env) (e : Expression) → Keeps Any (node below env along e)
  unfolding node
  keeps-node env along (undef_at at) = keeps-pure undef tt
  keeps-node env along (boolean_at at b) = keeps-pure (boolean b) tt
  keeps-node env along (number_at at z) = keeps-pure (number z) tt
  keeps-node env along (string_at at chars) = keeps-pure (string chars) tt
  keeps-node env along (name_at at word) = keeps-pure (variable word env along) tt
  keeps-node env along (vector_at at all) =
      bind (keeps-elements env along all []) (λ found _. keeps-make at (vector (as_elements found)))
  keeps-node env along (range_at at start end) =
      bind (all_keep.value env along start) (λ a _. bind (all_keep.value env along end) (λ b _.
      keeps-pure (ranged_by_one a b) tt))
  keeps-node env along (stepped_at at start step_by end) =
      bind (all_keep.value env along start) (λ a _. bind (all_keep.value env along step_by) (λ s _.
      bind (all_keep.value env along end) (λ b _. keeps-ranged at a s b)))
  keeps-node env along (unary_at at o a) = bind (all_keep.value env along a) (λ d _. keeps-make at (unary_op o d))
  keeps-node env along (binary_at at o a b) = bind (all_keep.value env along a) (λ d _. keeps-right env along at o d b)
  keeps-node env along (choose_at at test a b) =
      bind (all_keep.value env along test)
      (λ d _. either (truth d) (all_keep.value env along a) (all_keep.value env along b))
  keeps-node env along (index_at at a i) =
      bind (all_keep.value env along a) (λ d _. bind (all_keep.value env along i) (λ e _. keeps-pure (indexed d e) tt))
  keeps-node env along (member_at at a word) =
      bind (all_keep.value env along a) (λ d _. keeps-pure (member_of word d) tt)
  keeps-node env along (call_at at word args) =
      bind (keeps-values env along args []) (λ found _. keeps-called at word (function_named word env) along args found)
  keeps-node env along (let_in at args e) =
      bind (keeps-judge_named at (codes "let") args) (λ _ _. bind (keeps-bound_in_order env along args empty)
      (λ b _. all_keep.value (within env b.names) (within along b.dollars) e))
  keeps-node env along (assert_in at args e) =
      bind (keeps-values env along args []) (λ found _. bind (keeps-asserted at args found) (λ _ _.
      all_keep.value env along e))
  keeps-node env along (echo_in at args e) =
      bind (keeps-values env along args []) (λ found _. bind (keeps-say at (echo_line args found)) (λ _ _.
      all_keep.value env along e))

  keeps-layer : (env along : Env) (e : Expression) → Keeps Any (value_layer below env along e)
  unfolding value_layer
  keeps-layer env along e = bind (keeps-step (place e)) (λ _ _. keeps-node env along e)

  -- ---- one rule for each kind of element
  keeps-element : (env along : Env) (e : Element) (so_far : List Datum)
      → Keeps Any (element_node below env along e so_far)
  unfolding element_node
  keeps-element env along (item e) so_far = bind (keeps-layer env along e) (λ d _. keeps-pure (so_far ++ d ∷ []) tt)
  keeps-element env along (each at e) so_far =
      bind (keeps-step at) (λ _ _. bind (all_keep.element env along e []) (λ found _.
      keeps-pure (so_far ++ flat_map items found) tt))
  keeps-element env along (for_each at args e) so_far =
      bind (keeps-step at) (λ _ _. bind (keeps-judge_variables at (codes "for") args) (λ _ _.
      keeps-for at args e env along so_far))
  keeps-element env along (for_loop at starts test steps e) so_far =
      bind (keeps-step at) (λ _ _. bind (keeps-judge_named at (codes "for") starts) (λ _ _.
      bind (keeps-judge_named at (codes "for") steps) (λ _ _.
      bind (keeps-bound_in_order env along starts empty) (λ b _.
      keeps-loop (suc step_limit) at test steps e env along b so_far))))
  keeps-element env along (let_element at args e) so_far =
      bind (keeps-step at) (λ _ _. bind (keeps-judge_named at (codes "let") args) (λ _ _.
      bind (keeps-bound_in_order env along args empty) (λ b _.
      all_keep.element (within env b.names) (within along b.dollars) e so_far)))
  keeps-element env along (if_element at test e) so_far =
      bind (keeps-step at) (λ _ _. bind (all_keep.value env along test) (λ d _.
      either (truth d) (all_keep.element env along e so_far) (keeps-pure so_far tt)))
  keeps-element env along (if_else at test e other) so_far =
      bind (keeps-step at) (λ _ _. bind (all_keep.value env along test) (λ d _.
      either (truth d) (all_keep.element env along e so_far) (all_keep.element env along other so_far)))

  pub keeps-deeper : AllKeep (record { value = value_layer below; element = element_node below })
  keeps-deeper = record { value = keeps-layer; element = keeps-element }

-- at each depth
pub keeps-meaning : (depth : ℕ) → AllKeep (meaning depth)
unfolding meaning
keeps-meaning zero =
    record {
      value = λ env along e. keeps-over Depth (place e);
      element = λ env along e so_far. keeps-over Depth (element_place e);
    }
keeps-meaning (suc depth) = keeps-deeper (meaning depth) (keeps-meaning depth)
