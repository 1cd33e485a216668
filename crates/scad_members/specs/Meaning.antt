-- What statements give (OpenSCAD User Manual, "The OpenSCAD Language"): a tree of solids and a new state, or the
-- first fault or budget. One rule for each kind of statement, in the order of the syntax tree, and one for each
-- module of the language. `w` is where the statement's shapes stand, `env` the frames of the place where it
-- stands, `along` those of the `$` names along the calls. What a statement holds or calls stands one deeper than
-- it, and `below` says what is given there.
use Rattle.std.specs.Prelude.{ℕ, zero, suc, List, [], ◌∷◌, ◌++◌, Option, Some, None, if◌then◌else◌, codes}
use Rattle.scad_fault.specs.declared.place.Place.{Place}
use Rattle.scad_fault.specs.declared.fault.FaultKind.TheVariants.{LeftOut as IsLeftOut, UnknownModule}
use Rattle.scad_fault.specs.declared.budget.BudgetKind.TheVariants.{Depth}
use Rattle.scad_ast.specs.Tree.{Expression, Arguments, no_arguments, argument, Items, no_items, entry, Item, assignment, call_of, choice}
use Rattle.scad_value.specs.Datum.{Datum, undef}
use Rattle.scad_value.specs.Comparison.{truth}
use Rattle.scad_bindings.specs.Assignments.{bindings}
use Rattle.scad_bindings.specs.declared.binding.Binding.{Binding}
use Rattle.scad_scope.specs.Env.{Env, Children, no_children, children}
use Rattle.scad_expr.specs.State.{Outcome, Action, pure, ◌>>=◌, ◌>>◌, fault_of, over, step, say, start, depth_limit}
use Rattle.scad_expr.specs.Variables.{Bound, set, empty, first_env, first_along}
use Rattle.scad_expr.specs.Runs.{items}
use Rattle.scad_expr.specs.Arguments.{is_statement}
use Rattle.scad_expr.specs.EchoLines.{echo_line}
use Rattle.scad_expr.specs.Meaning.{meaning, values, bound, bound_in_order, asserted, judge_named, judge_variables, Opened}
use Rattle.scad_expr.specs.Meaning.{Below as Expressions}
use Rattle.scad_tree.specs.Solid.{Solid, nothing}
use Rattle.scad_tree.specs.Normal.{united}
use Rattle.scad_modules.specs.declared.module.Module.{Module}
use Rattle.scad_modules.specs.declared.module.Module.TheVariants.{Shape, Flat, Extrusion, Transform, Union, Difference, Intersection, Hull, Children as ChildrenOf, Echo, Assert}
use Rattle.scad_modules.specs.declared.module.Extrusion.TheVariants.{Linear, Rotate}
use Rattle.scad_modules.specs.declared.module.Name.{Name}
use Rattle.scad_modules.specs.declared.module.Name.TheVariants.{Known, For, IntersectionFor, Let, LeftOut, Unknown}
use Rattle.scad_modules.specs.Arguments.{taken}
use Rattle.scad_modules.specs.Extrusions.{linear_by, turned_by}
use Rattle.scad_modules.specs.Names.{meaning_of}
use Rattle.scad_modules.specs.Transforms.{matrix_of}
use Rattle.scad_leaves.specs.declared.operation.Operation.{Operation}
use Rattle.scad_leaves.specs.declared.operation.Operation.TheVariants.{Unite, Intersect, Subtract}
use Rattle.scad_leaves.specs.declared.space.Space.TheVariants.{Turned as InTurned}
use Rattle.scad_leaves.specs.declared.space.Where.{Where}
use Rattle.scad_leaves.specs.Fineness.{fineness}
use Rattle.scad_leaves.specs.Hulls.{hull_made}
use Rattle.scad_leaves.specs.Operation.{operated}
use Rattle.scad_leaves.specs.Products.{argued, placed_by, judge_solid, judged}
use Rattle.scad_leaves.specs.Profiles.{profile_count, with_its_profiles}
use Rattle.scad_leaves.specs.Shapes.{primitive_made, flat_made}
use Rattle.scad_leaves.specs.Where.{at_first, moved, stands, inside_linear, turned_at}
use Rattle.scad_members.specs.Choice.{child_named}
use Rattle.scad_members.specs.OpenFrames.{scope_opened, names_opened, call_opened, dollars_of}
use Rattle.scad_members.specs.Modules.{Found, module_named, kept_children}
use Rattle.scad_members.specs.Scopes.{item_place, is_marked, item_at}

-- ---- what stands one deeper
pub record Below : Type 0 where
  -- expressions
  pub expressions : Expressions
  -- the value of an assignment, from its place and its expression
  pub assignment : Env → Env → Place → Expression → Action Datum
  -- the tree of a statement
  pub statement : Where → Env → Env → Item → Action Solid

module _ (below : Below) where
  -- ---- scopes
  -- the value of the assignment that stands at a place of a scope
  unfoldable pub assigned_value : Env → Env → Option Item → Action Datum
  assigned_value env along (Some (assignment at name e)) = below.assignment env along at e
  assigned_value env along _ = pure undef

  -- the names of a scope in the order of their first assignments, each with the expression of its last one; each
  -- sees those before it
  unfoldable pub assigned : Items → Env → Env → List Binding → Bound → Action Bound
  assigned scope env along [] b = pure b
  assigned scope env along (p ∷ more) b = do
    d ← assigned_value (scope_opened scope env along b).env (scope_opened scope env along b).along
        (item_at scope p.item)
    assigned scope env along more (set p.name d b)

  -- the frames of a scope: its assignments are evaluated before its statements
  unfoldable pub opened_scope : Items → Env → Env → Action Opened
  opened_scope scope env along = do
    b ← assigned scope env along (bindings scope) empty
    pure (scope_opened scope env along b)

  -- a statement's tree is a member, unless the statement is marked `%`
  unfoldable pub member : Where → Env → Env → Item → List Solid → Action (List Solid)
  member w env along i so_far =
      if is_statement i then (do
        s ← below.statement w env along i
        pure (if is_marked i then so_far else so_far ++ s ∷ []))
      else pure so_far

  -- the members that the statements of a scope give, in their order, behind those so far
  unfoldable pub members_from : Where → Env → Env → Items → List Solid → Action (List Solid)
  members_from w env along no_items so_far = pure so_far
  members_from w env along (entry i more) so_far = do
    now ← member w env along i so_far
    members_from w env along more now

  unfoldable pub members : Where → Items → Env → Env → Action (List Solid)
  members w scope env along = do
    o ← opened_scope scope env along
    members_from w o.env o.along scope []

  -- the tree of an operation over the statements of a scope, made by the statement at a place
  unfoldable pub combined : Operation → Place → Where → Items → Env → Env → Action Solid
  combined o at w scope env along = do
    ss ← members w scope env along
    judged at (operated o ss)

  -- ---- modules of the program
  -- the body, in a scope inside the frame of the parameters, which keeps the children with the names of the call's
  -- place
  unfoldable pub called_own : Place → Where → Env → Env → Found → Arguments → List Datum → Items → Action Solid
  called_own at w env along m args found all = do
    b ← bound below.expressions m.home along m.definition.parameters args found
    combined Unite at w m.definition.body (call_opened m.home along all env b).env
        (call_opened m.home along all env b).along

  -- ---- `for`, `intersection_for`, `let`
  -- one turn for each of some values: a step at the `for`, and then what runs inside with the name set in a frame
  -- of its own
  unfoldable pub turns : Place → List ℕ → (Env → Env → List Solid → Action (List Solid)) → Env → Env → List Datum
      → List Solid → Action (List Solid)
  turns at name inner env along [] so_far = pure so_far
  turns at name inner env along (d ∷ more) so_far = do
    step at
    now ← inner (names_opened env along (set name d empty)).env
        (names_opened env along (set name d empty)).along so_far
    turns at name inner env along more now

  -- the first variable is the outermost; the values of each are evaluated anew in each turn of those before it,
  -- and see them. In each turn of all of them the children are run as one scope, and united
  unfoldable pub for_variables : Place → Where → Arguments → Items → Env → Env → List Solid → Action (List Solid)
  for_variables at w no_arguments all env along so_far = do
    s ← combined Unite at w all env along
    pure (so_far ++ s ∷ [])
  for_variables at w (argument None e more) all env along so_far = for_variables at w more all env along so_far
  for_variables at w (argument (Some name) e more) all env along so_far = do
    d ← below.expressions.value env along e
    turns at name (for_variables at w more all) env along (items d) so_far

  -- `for` unites its turns, `intersection_for` intersects them
  unfoldable pub looped : Operation → Place → List ℕ → Where → Env → Env → Arguments → Items → Action Solid
  looped o at name w env along args all = do
    judge_variables at name args
    ss ← for_variables at w args all env along []
    judged at (operated o ss)

  -- `let` binds left to right, later ones seeing earlier ones, and runs its children inside
  unfoldable pub let_in : Place → Where → Env → Env → Arguments → Items → Action Solid
  let_in at w env along args all = do
    judge_named at (codes "let") args
    b ← bound_in_order below.expressions env along args empty
    combined Unite at w all (names_opened env along b).env (names_opened env along b).along

  -- ---- `children`
  -- a child that is named is run; one marked `%` gives nothing
  unfoldable pub child : Where → Env → Env → Option Item → List Solid → Action (List Solid)
  child w env along None so_far = pure so_far
  child w env along (Some i) so_far = member w env along i so_far

  -- the children that values name, in the order of the values
  unfoldable pub children_by : Where → Env → Env → Items → List Datum → List Solid → Action (List Solid)
  children_by w env along all [] so_far = pure so_far
  children_by w env along all (d ∷ more) so_far = do
    now ← child w env along (child_named all d) so_far
    children_by w env along all more now

  -- all children where no value is given, else those that its items name: a number itself, the elements of a
  -- vector, the numbers of a range
  unfoldable pub chosen : Where → Env → Env → Items → Option Datum → Action (List Solid)
  chosen w env along all None = members_from w env along all []
  chosen w env along all (Some d) = children_by w env along all (items d) []

  -- they run with the `$` names and the matrix of the place where `children` is called, and their scope's
  -- assignments are evaluated anew
  unfoldable pub run_children : Place → Where → Env → Option Datum → Children → Action Solid
  run_children at w along which no_children = pure nothing
  run_children at w along which (children all home) = do
    o ← opened_scope all home along
    ss ← chosen w o.env o.along all which
    judged at (united ss)

  -- ---- one rule for each module of the language
  -- its arguments were evaluated; `env` and `along` are those inside the call, with the `$` names among its
  -- arguments
  unfoldable pub built_in : Module → Place → List ℕ → Where → Env → Env → Arguments → List Datum → Items
      → Action Solid
  -- `cube`, `sphere`, `cylinder`, `polyhedron`: a leaf, whose children aren't run
  built_in (Shape s) at name w env along args found all = primitive_made s at name w env along args found
  -- `square`, `circle`, `polygon`: a leaf for each outline, the first without the others; their children aren't run
  built_in (Flat f) at name w env along args found all = flat_made f at name w env along args found
  -- `linear_extrude`: the children, flat, united
  built_in (Extrusion Linear) at name w env along args found all = do
    judge_solid at w.space
    h ← argued at name (linear_by args found)
    combined Unite at (inside_linear w.whole h) all env along
  -- `rotate_extrude`: likewise; its turns are judged before the children run
  built_in (Extrusion Rotate) at name w env along args found all = do
    judge_solid at w.space
    r ← argued at name (turned_by (fineness env along) args found)
    combined Unite at (stands w.whole (InTurned (turned_at at r))) all env along
  -- `translate`, `scale`, `rotate`, `mirror`, `multmatrix`: the children, placed by the matrix besides, and united
  built_in (Transform t) at name w env along args found all = do
    m ← argued at name (matrix_of t args found)
    inner ← placed_by at (moved w m)
    combined Unite at inner all env along
  -- `color`, `render`, `group`, `union`: the children united
  built_in Union at name w env along args found all = combined Unite at w all env along
  -- the first child without the others, and what all have in common; a child marked `%` is left out
  built_in Difference at name w env along args found all = combined Subtract at w all env along
  built_in Intersection at name w env along args found all = combined Intersect at w all env along
  -- the hull of the children united; it stands where they do
  built_in Hull at name w env along args found all = do
    from ← profile_count
    t ← combined Unite at w all env along
    hull_made at name w from t
  -- `children(i)`
  built_in ChildrenOf at name w env along args found all =
      run_children at w along (taken (Some 0) (codes "i") args found) (kept_children env)
  -- the line, and then the children united
  built_in Echo at name w env along args found all = do
    say at (echo_line args found)
    combined Unite at w all env along
  -- the judgement, and then the children united
  built_in Assert at name w env along args found all = do
    asserted at args found
    combined Unite at w all env along

  -- ---- calls
  -- a call of a module of the language: its `$` arguments are set in frames of its own
  unfoldable pub called_known : Module → Place → List ℕ → Where → Env → Env → Arguments → List Datum → Items
      → Action Solid
  called_known k at name w env along args found all =
      built_in k at name w (names_opened env along (dollars_of args found empty)).env
      (names_opened env along (dollars_of args found empty)).along args found all

  -- `for` and `let` can't be defined by a program, and judge and evaluate their arguments by themselves;
  -- `intersection_for` does so where the program has no module of its name. The arguments of any other call are
  -- evaluated where it is written, and then the program's modules go before those of the language
  unfoldable pub called : Name → Option Found → Place → List ℕ → Where → Env → Env → Arguments → Items → Action Solid
  called For own at name w env along args all = looped Unite at name w env along args all
  called Let own at name w env along args all = let_in at w env along args all
  called _ (Some m) at name w env along args all = do
    found ← values below.expressions env along args []
    called_own at w env along m args found all
  called IntersectionFor None at name w env along args all = looped Intersect at name w env along args all
  called (Known k) None at name w env along args all = do
    found ← values below.expressions env along args []
    called_known k at name w env along args found all
  called LeftOut None at name w env along args all = do
    found ← values below.expressions env along args []
    fault_of IsLeftOut at name
  called Unknown None at name w env along args all = do
    found ← values below.expressions env along args []
    fault_of UnknownModule at name

  -- ---- one rule for each kind of statement
  unfoldable pub node : Where → Env → Env → Item → Action Solid
  node w env along (call_of at percent hash name args all) =
      called (meaning_of name) (module_named name env) at name w env along args all
  -- the test, and then the chosen statements as one scope
  node w env along (choice at percent hash test held other) = do
    d ← below.expressions.value env along test
    combined Unite at w (if truth d then held else other) env along
  -- definitions and assignments aren't run
  node w env along _ = pure nothing

  -- a statement takes a step as it begins; marked `%` it is evaluated and gives nothing. Where it gives nothing, no
  -- profile of its leaves stands
  unfoldable pub statement_layer : Where → Env → Env → Item → Action Solid
  statement_layer w env along i = do
    step (item_place i)
    from ← profile_count
    s ← node w env along i
    with_its_profiles from (if is_marked i then nothing else s)

-- past the limit of depth nothing is evaluated, and no step is taken
abbrev pub too_deep : Below
too_deep = record {
  expressions = meaning 0;
  assignment = λ env along at e. over Depth at;
  statement = λ w env along i. over Depth (item_place i);
}

-- what is given where so many levels of depth are left, that of the statement itself counted
unfoldable pub statements_meaning : ℕ → Below
statements_meaning zero = too_deep
statements_meaning (suc depth) = record {
  expressions = meaning (suc depth);
  assignment = λ env along at e. step at >> (meaning depth).value env along e;
  statement = statement_layer (statements_meaning depth);
}

-- a program: its statements stand at depth 1, and their trees are united
unfoldable pub program_of : Items → Action Solid
program_of program = do
  ss ← members (statements_meaning depth_limit) at_first program first_env first_along
  pure (united ss)

-- what a program means: its tree, and the lines of `echo` in the state; or the first fault or budget, with the
-- lines before it
unfoldable pub means : Items → Outcome Solid
means program = program_of program start
