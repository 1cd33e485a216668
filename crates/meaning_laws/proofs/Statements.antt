-- Each rule of statements gives trees of solids, where what stands one deeper does; refusals are of the source, and no
-- count falls or passes its limit.
use Rattle.std.proofs.Common.{ℕ, Bool, true, false, List, [], ◌∷◌, ◌++◌, Option, Some, None, codes, if◌then◌else◌}
use Rattle.std.proofs.lemmas.List.Elements.{All-nil, All-push}
use Rattle.scad_fault.specs.declared.place.Place.{Place}
use Rattle.scad_fault.specs.declared.fault.FaultKind.TheVariants.{LeftOut as IsLeftOut, UnknownModule}
use Rattle.scad_ast.specs.Tree.{Expression, Arguments, no_arguments, argument, Items, no_items, entry}
use Rattle.scad_ast.specs.Tree.{Item, assignment, call_of, choice, module_of, function_of}
use Rattle.scad_value.specs.Datum.{Datum, undef}
use Rattle.scad_value.specs.Comparison.{truth}
use Rattle.scad_bindings.specs.Assignments.{bindings}
use Rattle.scad_bindings.specs.declared.binding.Binding.{Binding}
use Rattle.scad_scope.specs.Env.{Env, Children, no_children, children}
use Rattle.scad_expr.specs.State.{Action}
use Rattle.scad_expr.specs.Variables.{Bound, set, empty}
use Rattle.scad_expr.specs.Runs.{items}
use Rattle.scad_expr.specs.Arguments.{is_statement}
use Rattle.scad_expr.specs.EchoLines.{echo_line}
use Rattle.scad_expr.specs.Meaning.{values}
use Rattle.scad_tree.specs.Solid.{Solid, nothing}
use Rattle.scad_tree.specs.Solids.{AreSolids}
use Rattle.scad_tree.specs.Normal.{united}
use Rattle.scad_modules.specs.declared.module.Module.{Module}
use Rattle.scad_modules.specs.declared.module.Module.TheVariants.{Shape, Flat, Extrusion, Transform, Union, Difference}
use Rattle.scad_modules.specs.declared.module.Module.TheVariants.{Intersection, Hull, Children as ChildrenOf, Echo, Assert}
use Rattle.scad_modules.specs.declared.module.Extrusion.TheVariants.{Linear, Rotate}
use Rattle.scad_modules.specs.declared.module.Name.{Name}
use Rattle.scad_modules.specs.declared.module.Name.TheVariants.{Known, For, IntersectionFor, Let, LeftOut, Unknown}
use Rattle.scad_modules.specs.Arguments.{taken}
use Rattle.scad_modules.specs.Extrusions.{linear_by, turned_by}
use Rattle.scad_modules.specs.Names.{meaning_of}
use Rattle.scad_modules.specs.Transforms.{matrix_of}
use Rattle.scad_leaves.specs.declared.operation.Operation.{Operation}
use Rattle.scad_leaves.specs.declared.operation.Operation.TheVariants.{Unite, Intersect, Subtract}
use Rattle.scad_leaves.specs.declared.space.Space.TheVariants.{Turned as InTurned}
use Rattle.scad_leaves.specs.declared.space.Where.{Where}
use Rattle.scad_leaves.specs.Fineness.{fineness}
use Rattle.scad_leaves.specs.Operation.{operated}
use Rattle.scad_leaves.specs.Where.{moved, stands, inside_linear, turned_at}
use Rattle.scad_inst.specs.Choice.{child_named}
use Rattle.scad_inst.specs.Modules.{Found, module_named, kept_children}
use Rattle.scad_inst.specs.OpenFrames.{scope_opened, names_opened, call_opened, dollars_of}
use Rattle.scad_inst.specs.Scopes.{item_at, item_place, is_marked}
use Rattle.scad_inst.specs.Meaning.{Below, assigned_value, assigned, opened_scope, member, members_from, members}
use Rattle.scad_inst.specs.Meaning.{combined}
use Rattle.scad_inst.specs.Meaning.{called_own, turns, for_variables, looped, let_in, child, children_by, chosen}
use Rattle.scad_inst.specs.Meaning.{run_children, built_in, called_known, called, node, statement_layer}
use Rattle.meaning_laws.proofs.Keeping.{Any, Keeps, bind, either, keeps-pure, keeps-fault_of, keeps-step, keeps-say}
use Rattle.meaning_laws.proofs.Results.{keeps-asserted, keeps-judge_named, keeps-judge_variables}
use Rattle.meaning_laws.proofs.Expressions.{AllKeep, keeps-values, keeps-bound, keeps-bound_in_order}
use Rattle.meaning_laws.proofs.ReadFlat.{reads-linear, reads-turned}
use Rattle.meaning_laws.proofs.ReadMatrices.{reads-matrix}
use Rattle.meaning_laws.proofs.Leaves.{keeps-argued, keeps-placed_by, keeps-judge_solid, keeps-judged}
use Rattle.meaning_laws.proofs.Leaves.{keeps-primitive, keeps-flat_made}
use Rattle.meaning_laws.proofs.Profiles.{keeps-profile_count, keeps-with_its_profiles}
use Rattle.meaning_laws.proofs.Hulls.{keeps-hull_made}
use Rattle.meaning_laws.proofs.Trees.{AllSolids, solids-nothing, solids-if, solids-united}
use Rattle.meaning_laws.proofs.Trees.{solids-operated}

-- all that stands one deeper does so
pub record AllGive (below : Below) : Type 0 where
  pub expressions : AllKeep below.expressions
  pub assignment : (env along : Env) (at : Place) (e : Expression) → Keeps Any (below.assignment env along at e)
  pub statement : (w : Where) (env along : Env) (i : Item) → Keeps AreSolids (below.statement w env along i)

module _ (below : Below) (all_give : AllGive below) where
  -- ---- scopes
  keeps-assigned_value : (env along : Env) (i : Option Item) → Keeps Any (assigned_value below env along i)
  unfolding assigned_value
  keeps-assigned_value env along (Some (assignment at name e)) = all_give.assignment env along at e
  keeps-assigned_value env along (Some (call_of at percent hash name args all)) = keeps-pure undef tt
  keeps-assigned_value env along (Some (choice at percent hash test held other)) = keeps-pure undef tt
  keeps-assigned_value env along (Some (function_of at word parameters body)) = keeps-pure undef tt
  keeps-assigned_value env along (Some (module_of at word parameters body)) = keeps-pure undef tt
  keeps-assigned_value env along None = keeps-pure undef tt

  keeps-assigned : (scope : Items) (env along : Env) (all : List Binding) (b : Bound)
      → Keeps Any (assigned below scope env along all b)
  unfolding assigned
  keeps-assigned scope env along [] b = keeps-pure b tt
  keeps-assigned scope env along (p ∷ more) b =
      let here = scope_opened scope env along b in
      bind (keeps-assigned_value here.env here.along (item_at scope p.item))
      (λ d _. keeps-assigned scope env along more (set p.name d b))

  keeps-opened : (scope : Items) (env along : Env) → Keeps Any (opened_scope below scope env along)
  unfolding opened_scope
  keeps-opened scope env along =
      bind (keeps-assigned scope env along (bindings scope) empty)
      (λ b _. keeps-pure (scope_opened scope env along b) tt)

  keeps-member : (w : Where) (env along : Env) (i : Item) (so_far : List Solid) → AllSolids so_far
      → Keeps AllSolids (member below w env along i so_far)
  unfolding member
  keeps-member w env along i so_far solids =
      either (is_statement i)
      (bind (all_give.statement w env along i) (λ s solid. keeps-pure _ (by (is_marked i) s solid)))
      (keeps-pure so_far solids)
    where
      by : (b : Bool) (s : Solid) → AreSolids s → AllSolids (if b then so_far else so_far ++ s ∷ [])
      by true s solid = solids
      by false s solid = All-push AreSolids so_far s solids solid

  keeps-members_from : (w : Where) (env along : Env) (scope : Items) (so_far : List Solid) → AllSolids so_far
      → Keeps AllSolids (members_from below w env along scope so_far)
  unfolding members_from
  keeps-members_from w env along no_items so_far solids = keeps-pure so_far solids
  keeps-members_from w env along (entry i more) so_far solids =
      bind (keeps-member w env along i so_far solids) (λ now all. keeps-members_from w env along more now all)

  pub keeps-members : (w : Where) (scope : Items) (env along : Env) → Keeps AllSolids (members below w scope env along)
  unfolding members
  keeps-members w scope env along =
      bind (keeps-opened scope env along) (λ o _.
      keeps-members_from w o.env o.along scope [] (All-nil AreSolids))

  keeps-combined : (o : Operation) (at : Place) (w : Where) (scope : Items) (env along : Env)
      → Keeps AreSolids (combined below o at w scope env along)
  unfolding combined
  keeps-combined o at w scope env along =
      bind (keeps-members w scope env along) (λ ss all. keeps-judged at (operated o ss) (solids-operated o ss all))

  -- ---- modules of the program
  keeps-own : (at : Place) (w : Where) (env along : Env) (m : Found) (args : Arguments) (found : List Datum)
      (all : Items) → Keeps AreSolids (called_own below at w env along m args found all)
  unfolding called_own
  keeps-own at w env along m args found all =
      bind (keeps-bound below.expressions all_give.expressions m.home along m.definition.parameters args found) (λ b _.
      let inside = call_opened m.home along all env b in
      keeps-combined Unite at w m.definition.body inside.env inside.along)

  -- ---- `for`, `intersection_for`, `let`
  keeps-turns : (at : Place) (name : List ℕ) (inner : Env → Env → List Solid → Action (List Solid))
      → ((env along : Env) (so_far : List Solid) → AllSolids so_far → Keeps AllSolids (inner env along so_far))
      → (env along : Env) (all : List Datum) (so_far : List Solid) → AllSolids so_far
      → Keeps AllSolids (turns below at name inner env along all so_far)
  unfolding turns
  keeps-turns at name inner keeps env along [] so_far solids = keeps-pure so_far solids
  keeps-turns at name inner keeps env along (d ∷ more) so_far solids =
      let inside = names_opened env along (set name d empty) in
      bind (keeps-step at) (λ _ _. bind (keeps inside.env inside.along so_far solids) (λ now all.
      keeps-turns at name inner keeps env along more now all))

  keeps-for : (at : Place) (w : Where) (args : Arguments) (all : Items) (env along : Env) (so_far : List Solid)
      → AllSolids so_far → Keeps AllSolids (for_variables below at w args all env along so_far)
  unfolding for_variables
  keeps-for at w no_arguments all env along so_far solids =
      bind (keeps-combined Unite at w all env along) (λ s solid.
      keeps-pure (so_far ++ s ∷ []) (All-push AreSolids so_far s solids solid))
  keeps-for at w (argument None e more) all env along so_far solids = keeps-for at w more all env along so_far solids
  keeps-for at w (argument (Some name) e more) all env along so_far solids =
      bind (all_give.expressions.value env along e) (λ d _.
      keeps-turns at name (for_variables below at w more all) (keeps-for at w more all) env along (items d) so_far
      solids)

  keeps-looped : (o : Operation) (at : Place) (name : List ℕ) (w : Where) (env along : Env) (args : Arguments)
      (all : Items) → Keeps AreSolids (looped below o at name w env along args all)
  unfolding looped
  keeps-looped o at name w env along args all =
      bind (keeps-judge_variables at name args) (λ _ _.
      bind (keeps-for at w args all env along [] (All-nil AreSolids)) (λ ss solids.
      keeps-judged at (operated o ss) (solids-operated o ss solids)))

  keeps-let : (at : Place) (w : Where) (env along : Env) (args : Arguments) (all : Items)
      → Keeps AreSolids (let_in below at w env along args all)
  unfolding let_in
  keeps-let at w env along args all =
      bind (keeps-judge_named at (codes "let") args) (λ _ _.
      bind (keeps-bound_in_order below.expressions all_give.expressions env along args empty) (λ b _.
      let inside = names_opened env along b in
      keeps-combined Unite at w all inside.env inside.along))

  -- ---- `children`
  keeps-child : (w : Where) (env along : Env) (i : Option Item) (so_far : List Solid) → AllSolids so_far
      → Keeps AllSolids (child below w env along i so_far)
  unfolding child
  keeps-child w env along None so_far solids = keeps-pure so_far solids
  keeps-child w env along (Some i) so_far solids = keeps-member w env along i so_far solids

  keeps-children_by : (w : Where) (env along : Env) (all : Items) (which : List Datum) (so_far : List Solid)
      → AllSolids so_far → Keeps AllSolids (children_by below w env along all which so_far)
  unfolding children_by
  keeps-children_by w env along all [] so_far solids = keeps-pure so_far solids
  keeps-children_by w env along all (d ∷ more) so_far solids =
      bind (keeps-child w env along (child_named all d) so_far solids) (λ now so_now.
      keeps-children_by w env along all more now so_now)

  keeps-chosen : (w : Where) (env along : Env) (all : Items) (which : Option Datum)
      → Keeps AllSolids (chosen below w env along all which)
  unfolding chosen
  keeps-chosen w env along all None = keeps-members_from w env along all [] (All-nil AreSolids)
  keeps-chosen w env along all (Some d) = keeps-children_by w env along all (items d) [] (All-nil AreSolids)

  keeps-children : (at : Place) (w : Where) (along : Env) (which : Option Datum) (c : Children)
      → Keeps AreSolids (run_children below at w along which c)
  unfolding run_children
  keeps-children at w along which no_children = keeps-pure nothing solids-nothing
  keeps-children at w along which (children all home) =
      bind (keeps-opened all home along) (λ o _. bind (keeps-chosen w o.env o.along all which) (λ ss solids.
      keeps-judged at (united ss) (solids-united ss solids)))

  -- ---- one rule for each module of the language
  keeps-built_in : (k : Module) (at : Place) (name : List ℕ) (w : Where) (env along : Env) (args : Arguments)
      (found : List Datum) (all : Items) → Keeps AreSolids (built_in below k at name w env along args found all)
  unfolding built_in
  keeps-built_in (Shape s) at name w env along args found all = keeps-primitive s at name w env along args found
  keeps-built_in (Flat f) at name w env along args found all = keeps-flat_made f at name w env along args found
  keeps-built_in (Extrusion Linear) at name w env along args found all =
      bind (keeps-judge_solid at w.space) (λ _ _.
      bind (keeps-argued at name (linear_by args found) (reads-linear args found)) (λ h _.
      keeps-combined Unite at (inside_linear w.whole h) all env along))
  keeps-built_in (Extrusion Rotate) at name w env along args found all =
      let fine = fineness env along in
      bind (keeps-judge_solid at w.space) (λ _ _.
      bind (keeps-argued at name (turned_by fine args found) (reads-turned fine args found)) (λ r _.
      keeps-combined Unite at (stands w.whole (InTurned (turned_at at r))) all env along))
  keeps-built_in (Transform t) at name w env along args found all =
      bind (keeps-argued at name (matrix_of t args found) (reads-matrix t args found)) (λ m _.
      bind (keeps-placed_by at (moved w m)) (λ inner _. keeps-combined Unite at inner all env along))
  keeps-built_in Union at name w env along args found all = keeps-combined Unite at w all env along
  keeps-built_in Difference at name w env along args found all = keeps-combined Subtract at w all env along
  keeps-built_in Intersection at name w env along args found all = keeps-combined Intersect at w all env along
  keeps-built_in Hull at name w env along args found all =
      bind keeps-profile_count (λ from _. bind (keeps-combined Unite at w all env along) (λ t solid.
      keeps-hull_made at name w from t solid))
  keeps-built_in ChildrenOf at name w env along args found all =
      keeps-children at w along (taken (Some 0) (codes "i") args found) (kept_children env)
  keeps-built_in Echo at name w env along args found all =
      bind (keeps-say at (echo_line args found)) (λ _ _. keeps-combined Unite at w all env along)
  keeps-built_in Assert at name w env along args found all =
      bind (keeps-asserted at args found) (λ _ _. keeps-combined Unite at w all env along)

  -- ---- calls
  keeps-known : (k : Module) (at : Place) (name : List ℕ) (w : Where) (env along : Env) (args : Arguments)
      (found : List Datum) (all : Items) → Keeps AreSolids (called_known below k at name w env along args found all)
  unfolding called_known
  keeps-known k at name w env along args found all =
      let inside = names_opened env along (dollars_of args found empty) in
      keeps-built_in k at name w inside.env inside.along args found all

  keeps-arguments : (env along : Env) (args : Arguments) → Keeps Any (values below.expressions env along args [])
  keeps-arguments env along args = keeps-values below.expressions all_give.expressions env along args []

  keeps-called : (n : Name) (own : Option Found) (at : Place) (name : List ℕ) (w : Where) (env along : Env)
      (args : Arguments) (all : Items) → Keeps AreSolids (called below n own at name w env along args all)
  unfolding called
  keeps-called For own at name w env along args all = keeps-looped Unite at name w env along args all
  keeps-called Let own at name w env along args all = keeps-let at w env along args all
  keeps-called (Known k) (Some m) at name w env along args all =
      bind (keeps-arguments env along args) (λ found _. keeps-own at w env along m args found all)
  keeps-called IntersectionFor (Some m) at name w env along args all =
      bind (keeps-arguments env along args) (λ found _. keeps-own at w env along m args found all)
  keeps-called LeftOut (Some m) at name w env along args all =
      bind (keeps-arguments env along args) (λ found _. keeps-own at w env along m args found all)
  keeps-called Unknown (Some m) at name w env along args all =
      bind (keeps-arguments env along args) (λ found _. keeps-own at w env along m args found all)
  keeps-called IntersectionFor None at name w env along args all = keeps-looped Intersect at name w env along args all
  keeps-called (Known k) None at name w env along args all =
      bind (keeps-arguments env along args) (λ found _. keeps-known k at name w env along args found all)
  keeps-called LeftOut None at name w env along args all =
      bind (keeps-arguments env along args) (λ found _. keeps-fault_of IsLeftOut at name)
  keeps-called Unknown None at name w env along args all =
      bind (keeps-arguments env along args) (λ found _. keeps-fault_of UnknownModule at name)

  -- ---- one rule for each kind of statement
  keeps-node : (w : Where) (env along : Env) (i : Item) → Keeps AreSolids (node below w env along i)
  unfolding node
  keeps-node w env along (call_of at percent hash name args all) =
      keeps-called (meaning_of name) (module_named name env) at name w env along args all
  keeps-node w env along (choice at percent hash test held other) =
      bind (all_give.expressions.value env along test) (λ d _.
      keeps-combined Unite at w (if truth d then held else other) env along)
  keeps-node w env along (assignment at name e) = keeps-pure nothing solids-nothing
  keeps-node w env along (function_of at word parameters body) = keeps-pure nothing solids-nothing
  keeps-node w env along (module_of at word parameters body) = keeps-pure nothing solids-nothing

  pub keeps-layer : (w : Where) (env along : Env) (i : Item) → Keeps AreSolids (statement_layer below w env along i)
  unfolding statement_layer
  keeps-layer w env along i =
      bind (keeps-step (item_place i)) (λ _ _. bind keeps-profile_count (λ from _.
      bind (keeps-node w env along i) (λ s solid.
      keeps-with_its_profiles from (if is_marked i then nothing else s)
      (solids-if (is_marked i) nothing s solids-nothing solid))))
