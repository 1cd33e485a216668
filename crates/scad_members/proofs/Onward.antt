-- What is at work and what follows it, as the parts of a statement begin.
use Rattle.std.proofs.Common.{◌≡◌, ℕ, ◌+◌, ◌<◌, ◌≤◌, Bool, true, false, if◌then◌else◌, List, [], ◌∷◌, ◌++◌, length}
use Rattle.std.proofs.Common.{get_or, drop, Option, Some, None, Result, Ok, Err, IfErr, Vec, Global, refl, sym, ap, ap₂}
use Rattle.std.proofs.Common.{◌∙◌, arith}
use Rattle.std.proofs.lemmas.List.{drop_all}
use Rattle.std.specs.Borrow.{Bor}
use Rattle.scad_fault.specs.declared.place.Place.{Place}
use Rattle.scad_ast.specs.declared.statement.Item.{Item}
use Rattle.scad_ast.specs.Scope.{item_of, items}
use Rattle.scad_ast.specs.Tree.{Items, Arguments, no_arguments, argument, Expression}
use Rattle.scad_ast.specs.Tree.{Item as TreeItem}
use Rattle.scad_ast.specs.View.{arguments}
use Rattle.scad_value.specs.Datum.{Datum}
use Rattle.scad_scope.specs.Env.{Env, children}
use Rattle.scad_tree.specs.declared.node.Node.{Node}
use Rattle.scad_tree.specs.Normal.{united, intersected, subtracted}
use Rattle.scad_tree.specs.Solid.{Solid, nothing}
use Rattle.scad_tree.specs.View.{solids}
use Rattle.scad_machine.specs.declared.fault.EvalFault.{EvalFault}
use Rattle.scad_machine.specs.declared.fault.EvalFault.TheVariants.{Memory}
use Rattle.scad_machine.specs.declared.machine.Machine.{Machine}
use Rattle.scad_expr.specs.Arguments.{is_statement}
use Rattle.scad_expr.specs.Machine.{Held, held, env_in, along_in, state_of}
use Rattle.scad_expr.specs.Meaning.{value, Opened}
use Rattle.scad_expr.specs.Meaning.{Below as Expressions}
use Rattle.scad_expr.specs.OpenFrames.{left, opened_in}
use Rattle.scad_expr.specs.Runs.{items as run_over}
use Rattle.scad_expr.specs.State.{State, Outcome, gives, refuses, Action, and_then, pure, step}
use Rattle.scad_expr.specs.Variables.{set, empty, within}
use Rattle.scad_expr.proofs.Homes.{items-drop}
use Rattle.scad_expr.proofs.Loops.{twice, same-state}
use Rattle.scad_leaves.specs.declared.operation.Operation.{Operation}
use Rattle.scad_leaves.specs.declared.operation.Operation.TheVariants.{Unite, Intersect, Subtract}
use Rattle.scad_leaves.specs.declared.call.Call.{Call}
use Rattle.scad_leaves.specs.declared.space.Where.{Where}
use Rattle.scad_leaves.specs.Operation.{operated}
use Rattle.scad_leaves.specs.Products.{judged}
use Rattle.scad_members.specs.declared.variable.Variable.{Variable}
use Rattle.scad_operations.specs.declared.remainder.Remainder.{Remainder}
use Rattle.scad_members.specs.declared.stack.Stack.{Stack}
use Rattle.scad_members.specs.declared.work.Frame.{Frame}
use Rattle.scad_members.specs.declared.work.Frame.TheVariants.{Member, Then, Combine, Leave}
use Rattle.scad_members.specs.declared.work.Focus.{Focus}
use Rattle.scad_members.specs.declared.work.Focus.TheVariants.{Members, Children, Variables, Turns}
use Rattle.scad_members.specs.Choice.{child_named}
use Rattle.scad_members.specs.Frames.{below_of}
use Rattle.scad_members.specs.Meaning.{Below, statements_meaning, assigned, opened_scope, member, members_from, members}
use Rattle.scad_members.specs.Meaning.{combined, run_children, chosen, children_by, child, turns, for_variables}
use Rattle.scad_members.specs.ChildRange.{NameAlike}
use Rattle.scad_members.specs.Scopes.{is_marked}
use Rattle.scad_expr.specs.Runs.{left_in}
use Rattle.scad_members.specs.Stack.{Goes, Starts, Rest, onto, rest_of, listed, goes_on, with_member}
use Rattle.scad_members.proofs.Levels.{expressions-are}
use Rattle.scad_members.proofs.ScopeFrames.{depth-left}

-- ---- the stack
pub rest-push : (all : List Frame) (f : Frame) (k : Rest) → rest_of (all ++ f ∷ []) k ≡ onto f (rest_of all k)
rest-push [] f k = refl
rest-push (g ∷ all) f k = rest-push all f (onto g k)

pub ruleset stacks = (rest-push)

pub ruleset nodes = (twice)

-- ---- what begins, whatever the machine holds, goes on
pub starts-goes : (whole begun : Outcome Solid) (r : Result Focus EvalFault) (stack : Stack) (m : Machine)
    → whole ≡ begun → Starts begun r stack (held m) (state_of m) → IfErr r (λ e. e ≡ Memory) → Goes whole r stack m
starts-goes whole begun (Ok f) stack m is starts memory = is ∙ starts
starts-goes whole begun (Err e) stack m is starts memory = λ some. absurd (some memory)

-- ---- the items of a scope
module _ (h : Held) (w : Where) (i : Item) (f : Focus) (k : Rest) (ss : List Solid) (s : State) where
  -- a statement is run, and then what comes behind it
  pub item-runs : (marked : Bool) (k2 : Rest) (ms : List Solid) (w2 : Where) → is_statement (item_of i) ≡ true
      → marked ≡ is_marked (item_of i) → k2 ≡ onto (Member marked) (onto (Then f) k) → ms ≡ ss → w2 ≡ w
      → and_then (member (below_of h) w (env_in h) (along_in h) (item_of i) ss s) (goes_on f k w h)
      ≡ and_then ((below_of h).statement w2 (env_in h) (along_in h) (item_of i) s) (k2 w2 h ms)
  unfolding member onto
  item-runs marked k2 ms w2 is mark then_is made stands =
      let run : Outcome Solid = (below_of h).statement w (env_in h) (along_in h) (item_of i) s in
      let one : Bool → State → Outcome (List Solid) = λ b. (if b then
      (λ (u : State). and_then ((below_of h).statement w (env_in h) (along_in h) (item_of i) u)
      (λ t. pure (if is_marked (item_of i) then ss else ss ++ t ∷ []))) else pure ss) in
      ap (λ (b : Bool). and_then (one b s) (goes_on f k w h)) is
      ∙ twice run (λ t. pure (with_member (is_marked (item_of i)) ss t)) (goes_on f k w h)
      ∙ ap₂ (λ (b : Bool) (l : List Solid). and_then run (onto (Member b) (onto (Then f) k) w h l)) (sym mark)
      (sym made)
      ∙ ap (λ (q : Rest). and_then run (q w h ms)) (sym then_is)
      ∙ ap (λ (x : Where). and_then ((below_of h).statement x (env_in h) (along_in h) (item_of i) s) (k2 x h ms))
      (sym stands)

  -- anything else is passed over
  pub item-passes : is_statement (item_of i) ≡ false
      → and_then (member (below_of h) w (env_in h) (along_in h) (item_of i) ss s) (goes_on f k w h)
      ≡ goes_on f k w h ss s
  unfolding member
  item-passes is =
      let one : Bool → State → Outcome (List Solid) = λ b. (if b then
      (λ (u : State). and_then ((below_of h).statement w (env_in h) (along_in h) (item_of i) u)
      (λ t. pure (if is_marked (item_of i) then ss else ss ++ t ∷ []))) else pure ss) in
      ap (λ (b : Bool). and_then (one b s) (goes_on f k w h)) is

-- what isn't a statement gives nothing, whatever is meant by a statement
pub item-skipped : (below : Below) (w : Where) (env along : Env) (ss : List Solid) (s : State) (all : List Item)
    (n : ℕ) (i : Item) → n < length all → i ≡ get_or all n i → is_statement (item_of i) ≡ false
    → members_from below w env along (items (drop n all)) ss s
    ≡ members_from below w env along (items (drop (n + 1) all)) ss s
unfolding members_from member
item-skipped below w env along ss s all n i there found is =
    let one : Bool → State → Outcome (List Solid) = λ b. (if b then
    (λ (u : State). and_then (below.statement w env along (item_of i) u)
    (λ t. pure (if is_marked (item_of i) then ss else ss ++ t ∷ []))) else pure ss) in
    ap (λ (l : Items). members_from below w env along l ss s) (items-drop all n i there found)
    ∙ ap (λ (b : Bool). and_then (one b s) (members_from below w env along (items (drop (n + 1) all)))) is

-- the item of a number, and those behind it
module _ (h : Held) (w : Where) (scope : Bor (Vec Item Global)) (n : ℕ) (k : Rest) (ss : List Solid) (s : State) where
  pub members-next : (i : Item) → n < length scope.now.items → i ≡ get_or scope.now.items n i
      → and_then (members_from (below_of h) w (env_in h) (along_in h) (items (drop n scope.now.items)) ss s)
      (listed k w h)
      ≡ and_then (member (below_of h) w (env_in h) (along_in h) (item_of i) ss s)
      (goes_on (Members scope (n + 1)) k w h)
  unfolding members_from goes_on
  members-next i there is =
      ap (λ (l : Items). and_then (members_from (below_of h) w (env_in h) (along_in h) l ss s) (listed k w h))
      (items-drop scope.now.items n i there is)
      ∙ twice (member (below_of h) w (env_in h) (along_in h) (item_of i) ss s)
      (members_from (below_of h) w (env_in h) (along_in h) (items (drop (n + 1) scope.now.items))) (listed k w h)

  pub members-end : length scope.now.items ≤ n
      → and_then (members_from (below_of h) w (env_in h) (along_in h) (items (drop n scope.now.items)) ss s)
      (listed k w h) ≡ listed k w h ss s
  unfolding members_from
  members-end past =
      ap (λ (l : List Item). and_then (members_from (below_of h) w (env_in h) (along_in h) (items l) ss s)
      (listed k w h)) (drop_all {X = Item} n scope.now.items past)

-- ---- children that values name
module _ (h : Held) (w : Where) (scope : Items) (ds : List Datum) (k : Rest) (ss : List Solid) (s : State) where
  pub children-next : (d : Datum) (o : Option TreeItem) (others : List Datum) → ds ≡ d ∷ others
      → o ≡ child_named scope d
      → and_then (children_by (below_of h) w (env_in h) (along_in h) scope ds ss s) (listed k w h)
      ≡ and_then (and_then (child (below_of h) w (env_in h) (along_in h) o ss s)
      (children_by (below_of h) w (env_in h) (along_in h) scope others)) (listed k w h)
  unfolding children_by
  children-next d o others are named =
      ap (λ (l : List Datum). and_then (children_by (below_of h) w (env_in h) (along_in h) scope l ss s) (listed k w h))
      are
      ∙ ap (λ (x : Option TreeItem). and_then (and_then (child (below_of h) w (env_in h) (along_in h) x ss s)
      (children_by (below_of h) w (env_in h) (along_in h) scope others)) (listed k w h)) (sym named)

  pub children-end : ds ≡ []
      → and_then (children_by (below_of h) w (env_in h) (along_in h) scope ds ss s) (listed k w h)
      ≡ listed k w h ss s
  unfolding children_by
  children-end are =
      ap (λ (l : List Datum). and_then (children_by (below_of h) w (env_in h) (along_in h) scope l ss s) (listed k w h))
      are

-- equal values name the same children
pub same-alike : (scope : Items) (few all : List Datum) → few ≡ all → NameAlike scope few all
same-alike scope few all same = record {
  alike = λ below w env along so_far s. ap (λ (l : List Datum). children_by below w env along scope l so_far s) same;
}

pub ruleset alike = (same-alike)

-- those that are chosen
module _ (h : Held) (w : Where) (scope : Bor (Vec Item Global)) (k : Rest) (ss : List Solid) (s : State)
    (none : ss ≡ []) where
  pub chosen-by : (d : Datum) (more : Remainder) → NameAlike (items scope.now.items) (left_in more) (run_over d)
      → and_then (chosen (below_of h) w (env_in h) (along_in h) (items scope.now.items) (Some d) s) (listed k w h)
      ≡ goes_on (Children scope more) k w h ss s
  unfolding chosen goes_on
  chosen-by d more same =
      ap (λ (o : Outcome (List Solid)). and_then o (listed k w h))
      (sym (same.alike (below_of h) w (env_in h) (along_in h) [] s))
      ∙ ap (λ (l : List Solid). and_then (children_by (below_of h) w (env_in h) (along_in h) (items scope.now.items)
      (left_in more) l s) (listed k w h)) (sym none)

  pub chosen-all :
      and_then (chosen (below_of h) w (env_in h) (along_in h) (items scope.now.items) None s) (listed k w h)
      ≡ goes_on (Members scope 0) k w h ss s
  unfolding chosen goes_on
  chosen-all =
      ap (λ (l : List Solid). and_then (members_from (below_of h) w (env_in h) (along_in h) (items scope.now.items) l s)
      (listed k w h)) (sym none)

pub ruleset chosen_children = (chosen-by, chosen-all)

-- ---- scopes
pub scope-begins : (o : Operation) (at : Place) (w : Where) (scope : Bor (Vec Item Global)) (outer : Vec Node Global)
    (back : ℕ) (w2 : Where) (h h2 : Held) (k k2 : Rest) (ss ms : List Solid) (s s2 : State)
    → opened_scope (below_of h) (items scope.now.items) (env_in h) (along_in h) s ≡ gives (opened_in h2) s2
    → left back h2 ≡ h → solids outer.items ≡ ss → k2 ≡ onto (Leave back) (onto (Combine o at outer) k) → ms ≡ []
    → w2 ≡ w
    → and_then (combined (below_of h) o at w (items scope.now.items) (env_in h) (along_in h) s) (k w h ss)
    ≡ goes_on (Members scope 0) k2 w2 h2 ms s2
unfolding combined members onto opened_in goes_on
scope-begins o at w scope outer back w2 h h2 k k2 ss ms s s2 opened is_left outer_is is none stands =
    let below = below_of h in
    let all = items scope.now.items in
    let o2 = members_from below w (env_in h2) (along_in h2) all [] s2 in
    ap (λ (x : Outcome Opened). and_then (and_then (and_then x (λ y. members_from below w y.env y.along all []))
    (λ qs. judged at (operated o qs))) (k w h ss)) opened
    ∙ twice o2 (λ qs. judged at (operated o qs)) (k w h ss)
    ∙ ap₂ (λ (x : Held) (os : List Solid). and_then o2 (λ qs t. and_then (judged at (operated o qs) t) (k w x os)))
    (sym is_left) (sym outer_is)
    ∙ ap₂ (λ (q : Rest) (n : List Solid). and_then (members_from below w (env_in h2) (along_in h2) all n s2)
    (listed q w h2)) (sym is) (sym none)
    ∙ ap₂ (λ (d : ℕ) (x : Where). and_then (members_from (statements_meaning d) x (env_in h2) (along_in h2) all ms s2)
    (listed k2 x h2)) (sym (depth-left back h2 h is_left)) (sym stands)

-- a scope without items gives nothing, and needs no frames
pub scope-empty : (o : Operation) (at : Place) (w : Where) (scope : Bor (Vec Item Global)) (h : Held) (k : Rest)
    (ss : List Solid) (t : Solid) (s : State) → length scope.now.items ≡ 0 → t ≡ nothing
    → and_then (combined (below_of h) o at w (items scope.now.items) (env_in h) (along_in h) s) (k w h ss)
    ≡ k w h ss t s
unfolding combined members members_from opened_scope assigned judged united intersected subtracted
scope-empty o at w scope h k ss t s is none =
    ap (λ (l : List Item). and_then (combined (below_of h) o at w (items l) (env_in h) (along_in h) s) (k w h ss))
    (no-items scope.now.items is)
    ∙ by o
    ∙ ap (λ (x : Solid). k w h ss x s) (sym none)
  where
    no-items : (all : List Item) → length all ≡ 0 → all ≡ []
    no-items [] zero_long = refl
    no-items (i ∷ all) some = absurd (let no : ⊥ = omega (arith, some) in no)

    by : (q : Operation) → and_then (combined (below_of h) q at w (items []) (env_in h) (along_in h) s) (k w h ss)
        ≡ k w h ss nothing s
    by Unite = refl
    by Intersect = refl
    by Subtract = refl

-- ---- children
pub children-begin : (at : Place) (w : Where) (scope : Items) (home : Env) (which : Option Datum)
    (outer : Vec Node Global) (back : ℕ) (w2 : Where) (h h2 : Held) (k k2 : Rest) (ss : List Solid) (s s2 : State)
    → opened_scope (below_of h) scope home (along_in h) s ≡ gives (opened_in h2) s2
    → left back h2 ≡ h → solids outer.items ≡ ss → k2 ≡ onto (Leave back) (onto (Combine Unite at outer) k) → w2 ≡ w
    → and_then (run_children (below_of h) at w (along_in h) which (children scope home) s) (k w h ss)
    ≡ and_then (chosen (below_of h2) w2 (env_in h2) (along_in h2) scope which s2) (listed k2 w2 h2)
unfolding run_children onto opened_in
children-begin at w scope home which outer back w2 h h2 k k2 ss s s2 opened is_left outer_is is stands =
    let below = below_of h in
    let o2 = chosen below w (env_in h2) (along_in h2) scope which s2 in
    ap (λ (x : Outcome Opened). and_then (and_then x (λ y t. and_then (chosen below w y.env y.along scope which t)
    (λ qs. judged at (united qs)))) (k w h ss)) opened
    ∙ twice o2 (λ qs. judged at (united qs)) (k w h ss)
    ∙ ap₂ (λ (x : Held) (os : List Solid). and_then o2 (λ qs t. and_then (judged at (united qs) t) (k w x os)))
    (sym is_left) (sym outer_is)
    ∙ ap (λ (q : Rest). and_then o2 (listed q w h2)) (sym is)
    ∙ ap₂ (λ (d : ℕ) (x : Where). and_then (chosen (statements_meaning d) x (env_in h2) (along_in h2) scope which s2)
    (listed k2 x h2)) (sym (depth-left back h2 h is_left)) (sym stands)

-- ---- the variables of a `for`
module _ (c : Call) (w : Where) (k : Rest) (ss : List Solid) (s : State) where
  abbrev loop : Held → Arguments → Outcome Solid
  loop h args = and_then (for_variables (below_of h) c.at w args (items c.all.now.items) (env_in h) (along_in h) ss s)
      (listed k w h)

  -- none is left
  pub variables-end : (args : Arguments) (h : Held) (k2 : Rest) (ms : List Solid) (w2 : Where) → args ≡ no_arguments
      → k2 ≡ onto (Member false) k → ms ≡ ss → w2 ≡ w
      → loop h args
      ≡ and_then (combined (below_of h) Unite c.at w2 (items c.all.now.items) (env_in h) (along_in h) s) (k2 w2 h ms)
  unfolding for_variables onto
  variables-end args h k2 ms w2 none is made stands =
      let run : Where → Outcome Solid = λ x. combined (below_of h) Unite c.at x (items c.all.now.items) (env_in h)
      (along_in h) s in
      ap (loop h) none
      ∙ twice (run w) (λ t. pure (ss ++ t ∷ [])) (listed k w h)
      ∙ ap₂ (λ (q : Rest) (l : List Solid). and_then (run w) (q w h l)) (sym is) (sym made)
      ∙ ap (λ (x : Where). and_then (run x) (k2 x h ms)) (sym stands)

  -- one without a name is passed over
  pub variable-passes : (word : Option (List ℕ)) (e : Expression) (n : ℕ) (h : Held) → word ≡ None
      → loop h (argument word e (arguments (drop n c.args.now.items))) ≡ goes_on (Variables c n) k w h ss s
  unfolding for_variables goes_on
  variable-passes word e n h none =
      ap (λ (o : Option (List ℕ)). loop h (argument o e (arguments (drop n c.args.now.items)))) none

  pub variable-named : (word : Option (List ℕ)) (name known : List ℕ) (e : Expression) (more : Arguments) (h : Held)
      → word ≡ Some known → name ≡ known → loop h (argument word e more) ≡ loop h (argument (Some name) e more)
  variable-named word name known e more h is same =
      ap (λ (o : Option (List ℕ)). loop h (argument o e more)) (is ∙ ap Some (sym same))

-- what a variable runs over
module _ (v : Variable) (w : Where) (k : Rest) (ss : List Solid) (s : State) (e : Expression) (h : Held) where
  abbrev named : Outcome Solid
  named = loop v.call w k ss s h (argument (Some v.name.now) e (arguments (drop v.next v.call.args.now.items)))

  abbrev runs : Outcome Datum → Outcome Solid
  runs o = and_then (and_then o (λ d. turns (below_of h) v.call.at v.name.now (for_variables (below_of h) v.call.at w
      (arguments (drop v.next v.call.args.now.items)) (items v.call.all.now.items)) (env_in h) (along_in h) (run_over d)
      ss)) (listed k w h)

  named-runs : named ≡ runs (value h.depth (env_in h) (along_in h) e s)
  unfolding for_variables
  named-runs = ap (λ (x : Expressions). runs (x.value (env_in h) (along_in h) e s)) (expressions-are h.depth)

  pub variable-runs : (more : Remainder) (h1 : Held) (d : Datum) (s1 : State)
      → value h.depth (env_in h) (along_in h) e s ≡ gives d s1 → h1 ≡ h → left_in more ≡ run_over d
      → named ≡ goes_on (Turns v more) k w h1 ss s1
  unfolding goes_on
  variable-runs more h1 d s1 given kept run =
      named-runs ∙ ap runs given
      ∙ ap (λ (l : List Datum). and_then (turns (below_of h) v.call.at v.name.now (for_variables (below_of h) v.call.at
      w (arguments (drop v.next v.call.args.now.items)) (items v.call.all.now.items)) (env_in h) (along_in h) l ss s1)
      (listed k w h)) (sym run)
      ∙ ap (λ (x : Held). and_then (turns (below_of x) v.call.at v.name.now (for_variables (below_of x) v.call.at w
      (arguments (drop v.next v.call.args.now.items)) (items v.call.all.now.items)) (env_in x) (along_in x)
      (left_in more) ss s1) (listed k w x)) (sym kept)

  pub variable-stops : (x : EvalFault) (s1 : State) → value h.depth (env_in h) (along_in h) e s ≡ refuses x s1
      → named ≡ refuses x s1
  variable-stops x s1 stopped = named-runs ∙ ap runs stopped

-- ---- the turns of a variable
module _ (v : Variable) (w : Where) where
  -- what runs inside a turn
  abbrev inside : Held → Env → Env → List Solid → Action (List Solid)
  inside h = for_variables (below_of h) v.call.at w (arguments (drop v.next v.call.args.now.items))
      (items v.call.all.now.items)

  abbrev around : Held → List Datum → List Solid → Action (List Solid)
  around h = turns (below_of h) v.call.at v.name.now (inside h) (env_in h) (along_in h)

  pub turn-begins : (d : Datum) (ds : List Datum) (more : Remainder) (back : ℕ) (w2 : Where) (k k1 k2 : Rest)
      (h h1 h2 : Held) (ss ms : List Solid) (s s2 s3 : State) → ds ≡ d ∷ left_in more
      → step v.call.at s ≡ gives (tt {0}) s2 → h1 ≡ h → k1 ≡ onto (Then (Turns v more)) k
      → gives (tt {0}) s2 ≡ gives (tt {0}) s3 → env_in h2 ≡ within (env_in h1) (set v.name.now d empty).names
      → along_in h2 ≡ within (along_in h1) (set v.name.now d empty).dollars → left back h2 ≡ h1
      → k2 ≡ onto (Leave back) k1 → ms ≡ ss → w2 ≡ w
      → and_then (around h ds ss s) (listed k w h) ≡ goes_on (Variables v.call v.next) k2 w2 h2 ms s3
  unfolding turns onto goes_on
  turn-begins d ds more back w2 k k1 k2 h h1 h2 ss ms s s2 s3 are stepped kept is1 same env along is_left is2 made
      stands =
      let b = set v.name.now d empty in
      let go : Held → List Solid → Action Solid = λ x now t. and_then (around x (left_in more) now t) (listed k w x) in
      ap (λ (l : List Datum). and_then (around h l ss s) (listed k w h)) are
      ∙ ap (λ (o : Outcome (Unit {0})). and_then (and_then o (λ _ t. and_then
      (inside h (within (env_in h) b.names) (within (along_in h) b.dollars) ss t) (around h (left_in more))))
      (listed k w h)) stepped
      ∙ twice (inside h (within (env_in h) b.names) (within (along_in h) b.dollars) ss s2) (around h (left_in more))
      (listed k w h)
      ∙ ap₂ (λ (e a : Env). and_then (inside h e a ss s2) (go h))
      (ap (λ (x : Held). within (env_in x) b.names) (sym kept) ∙ sym env)
      (ap (λ (x : Held). within (along_in x) b.dollars) (sym kept) ∙ sym along)
      ∙ ap (λ (x : Held). and_then (inside h (env_in h2) (along_in h2) ss s2) (go x)) (sym (is_left ∙ kept))
      ∙ ap₂ (λ (q : Rest) (t : State). and_then (inside h (env_in h2) (along_in h2) ss t) (listed q w h2))
      (sym (is2 ∙ ap (onto (Leave back)) is1)) (same-state _ _ _ _ same)
      ∙ ap (λ (l : List Solid). and_then (inside h (env_in h2) (along_in h2) l s3) (listed k2 w h2)) (sym made)
      ∙ ap₂ (λ (e : ℕ) (x : Where). and_then (for_variables (statements_meaning e) v.call.at x
      (arguments (drop v.next v.call.args.now.items)) (items v.call.all.now.items) (env_in h2) (along_in h2) ms s3)
      (listed k2 x h2)) (sym (depth-left back h2 h1 is_left ∙ ap (λ (x : Held). x.depth) kept)) (sym stands)

  pub turn-stops : (d : Datum) (ds : List Datum) (more : Remainder) (h : Held) (ss : List Solid) (s s2 : State)
      (e : EvalFault) (g : List Solid → Action Solid) → ds ≡ d ∷ left_in more → step v.call.at s ≡ refuses e s2
      → and_then (around h ds ss s) g ≡ refuses e s2
  unfolding turns
  turn-stops d ds more h ss s s2 e g are stopped =
      let b = set v.name.now d empty in
      ap (λ (l : List Datum). and_then (around h l ss s) g) are
      ∙ ap (λ (o : Outcome (Unit {0})). and_then (and_then o (λ _ t. and_then
      (inside h (within (env_in h) b.names) (within (along_in h) b.dollars) ss t) (around h (left_in more)))) g) stopped

  pub turns-end : (ds : List Datum) (h : Held) (ss : List Solid) (s : State) (g : List Solid → Action Solid)
      → ds ≡ [] → and_then (around h ds ss s) g ≡ g ss s
  unfolding turns
  turns-end ds h ss s g are = ap (λ (l : List Datum). and_then (around h l ss s) g) are

pub ruleset turned = (turns-end)
