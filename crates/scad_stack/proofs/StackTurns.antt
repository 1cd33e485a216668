-- One turn of the machine: what follows a frame, a part, names that are bound, a call, and a turn of a loop.
use Rattle.std.proofs.Common.{◌≡◌, ◌≢◌, ℕ, zero, suc, ◌-◌, ◌+◌, ◌<◌, ◌≤◌, Bool, true, false, if◌then◌else◌, List, [], ◌∷◌, ◌++◌, length, get_or, drop, Option, Some, None, Result, Ok, Err, OnOk, refl, sym, ap, ap₂, ◌∙◌, arith}
use Rattle.std.proofs.lemmas.List.{length-append}
use Rattle.scad_fault.specs.declared.place.Place.{Place}
use Rattle.scad_fault.specs.declared.budget.BudgetKind.TheVariants.{Steps}
use Rattle.scad_ast.specs.declared.expression.Arg.{Arg}
use Rattle.scad_ast.specs.Tree.{Expression, Arguments, no_arguments, argument, Element, Parameter, call, assert_in, echo_in}
use Rattle.scad_ast.specs.View.{expression_of, arguments}
use Rattle.scad_value.specs.Datum.{Datum}
use Rattle.scad_value.specs.Comparison.{truth}
use Rattle.scad_value.proofs.Lists.{arguments-drop, arguments-drop_all}
use Rattle.scad_builtin.specs.Builtin.{builtin}
use Rattle.scad_scope.specs.Env.{Env}
use Rattle.scad_scope.specs.FrameStore.{env_at, envs}
use Rattle.scad_machine.specs.declared.fault.EvalFault.{EvalFault}
use Rattle.scad_stack.specs.declared.frame.Frame.{Frame}
use Rattle.scad_machine.specs.State.{State, Outcome, gives, refuses, Action, pure, and_then, ◌>>=◌, over, step}
use Rattle.scad_machine.specs.Machine.{Held, env_in, along_in}
use Rattle.scad_machine.specs.Functions.{Found, function_named}
use Rattle.scad_operations.specs.Runs.{as_elements, items}
use Rattle.scad_machine.specs.Variables.{Bound, set, empty, within}
use Rattle.scad_stack.specs.Meaning.{Below, meaning, value, value_layer, node, values, default_value, called, called_own, called_builtin, bound_in_order, loop_turns, turns, for_variables}
use Rattle.scad_machine.specs.OpenFrames.{opened, set_in_last, left, bound_in, outer, IsInner}
use Rattle.scad_stack.specs.Pieces.{defaulted, named_of}
use Rattle.scad_machine.specs.Arguments.{lone}
use Rattle.scad_stack.specs.Stack.{Whole, Rest, behind, args_of, binds, fills, renewed, turned, repeats, served, supplied, onto, rest_of}
use Rattle.scad_stack.proofs.DepthLeft.{value_none, value_more, place_of, element_none, element_more}
use Rattle.scad_stack.proofs.LoneNames.{values-lone}
use Rattle.scad_stack.proofs.Loops.{twice, same-then}
use Rattle.scad_machine.proofs.OpenFrames.{env_in-opened, env_in-before, along_in-opened, set_in_last-opened, left-opened}

-- ---- what follows a list of frames
pub rest-push : (all : List Frame) (f : Frame) (k : Rest) → rest_of (all ++ f ∷ []) k ≡ onto f (rest_of all k)
rest-push [] f k = refl
rest-push (g ∷ all) f k = rest-push all f (onto g k)

pub ruleset stacks = (rest-push, length-append)

-- ---- depth
pub value_layered : (d : ℕ) (env along : Env) (e : Expression) (s : State) → value (d + 1) env along e s
    ≡ value_layer (meaning d) env along e s
value_layered d env along e s = value_more (d + 1) env along e s (λ no. omega (arith, no)) ∙ ap
    (λ n. value_layer (meaning n) env along e s) (omega arith)

pub ruleset depths = (value_none, value_more, place_of, twice)

pub ruleset element_depths = (element_none, element_more)

-- what holds anyway holds where there is a value
pub on-ok : {A E P : Type 0} (r : Result A E) → P → OnOk r P
on-ok (Ok a) p = p
on-ok (Err e) p = tt

pub ruleset nodes = (twice, value_layered, on-ok)

-- ---- arguments
pub behind-drop : (i : ℕ) (all : List Arg) → behind i (arguments all) ≡ arguments (drop i all)
unfolding behind
behind-drop zero all = refl
behind-drop (suc i) [] = refl
behind-drop (suc i) (a ∷ all) = behind-drop i all

-- the arguments of an expression, as the code reads them
pub behind-all : (i : ℕ) (all : List Arg) (args : Arguments) → arguments all ≡ args → length all ≤ i
    → behind i args ≡ no_arguments
behind-all i all args is past = ap (behind i) (sym is) ∙ behind-drop i all ∙ arguments-drop_all all i past

pub behind-next : (i : ℕ) (all : List Arg) (args : Arguments) (a : Arg) → arguments all ≡ args → i < length all
    → a ≡ get_or all i a → behind i args ≡ argument a.name (expression_of a.value) (behind (i + 1) args)
behind-next i all args a is there at =
    ap (behind i) (sym is) ∙ behind-drop i all ∙ arguments-drop all i a there at
    ∙ ap (argument a.name (expression_of a.value)) (sym (behind-drop (i + 1) all) ∙ ap (behind (i + 1)) is)

pub supplied-next : {C : Type 0} (below : Below) (e : Expression) (env along : Env) (word : Option (List ℕ))
    (x : Expression) (so_far : List Datum) (s : State) (g : Datum → Action C)
    → behind (length so_far) (args_of e) ≡ argument word x (behind (length so_far + 1) (args_of e))
    → and_then (supplied below e env along so_far s) g
    ≡ and_then (below.value env along x s)
    (λ d t. and_then (supplied below e env along (so_far ++ d ∷ []) t) g)
unfolding supplied values
supplied-next below e env along word x so_far s g next =
    ap (λ a. and_then (and_then (values below env along a so_far s) (served below e env along)) g) next
    ∙ by (below.value env along x s)
  where
    longer : (d : Datum) → length so_far + 1 ≡ length (so_far ++ d ∷ [])
    longer d = sym (length-append so_far (d ∷ []))

    by : (o : Outcome Datum) → and_then (and_then
        (and_then o (λ d. values below env along (behind (length so_far + 1) (args_of e)) (so_far ++ d ∷ [])))
        (served below e env along)) g
        ≡ and_then o (λ d t. and_then (and_then (values below env along (behind (length (so_far ++ d ∷ [])) (args_of e))
        (so_far ++ d ∷ []) t) (served below e env along)) g)
    by (gives d t) = ap (λ n. and_then (and_then (values below env along (behind n (args_of e)) (so_far ++ d ∷ []) t)
        (served below e env along)) g) (longer d)
    by (refuses f t) = refl

pub supplied-end : (below : Below) (e : Expression) (env along : Env) (so_far : List Datum) (s : State)
    → behind (length so_far) (args_of e) ≡ no_arguments
    → supplied below e env along so_far s ≡ served below e env along so_far s
unfolding supplied values
supplied-end below e env along so_far s none =
    ap (λ a. and_then (values below env along a so_far s) (served below e env along)) none

-- an expression with arguments begins with them
pub call-supplied : (below : Below) (env along : Env) (at : Place) (word : List ℕ) (args : Arguments) (e : Expression)
    (s : State) → call at word args ≡ e
    → node below env along (call at word args) s ≡ supplied below e env along [] s
unfolding node supplied behind args_of served
call-supplied below env along at word args e s is = ap (λ x. supplied below x env along [] s) is

pub assert-supplied : (below : Below) (env along : Env) (at : Place) (args : Arguments) (body e : Expression)
    (s : State) → assert_in at args body ≡ e
    → node below env along e s ≡ supplied below e env along [] s
unfolding node supplied behind args_of served
assert-supplied below env along at args body e s is =
    ap (λ x. node below env along x s) (sym is) ∙ ap (λ x. supplied below x env along [] s) is

pub echo-supplied : (below : Below) (env along : Env) (at : Place) (args : Arguments) (body e : Expression)
    (s : State) → echo_in at args body ≡ e
    → node below env along e s ≡ supplied below e env along [] s
unfolding node supplied behind args_of served
echo-supplied below env along at args body e s is =
    ap (λ x. node below env along x s) (sym is) ∙ ap (λ x. supplied below x env along [] s) is

pub called-own : (below : Below) (at : Place) (word : List ℕ) (f : Option Found) (g : Found) (along : Env)
    (args : Arguments) (found : List Datum) (s : State)
    → f ≡ Some g → called below at word f along args found s ≡ called_own below along g args found s
unfolding called
called-own below at word f g along args found s is = ap (λ o. called below at word o along args found s) is

pub called-known : (below : Below) (at : Place) (word : List ℕ) (f : Option Found) (along : Env) (args : Arguments)
    (found : List Datum) (s : State)
    → f ≡ None → called below at word f along args found s
    ≡ called_builtin at word (builtin word (as_elements found)) s
unfolding called
called-known below at word f along args found s is = ap (λ o. called below at word o along args found s) is

-- the one argument of a call
pub node-lone : (below : Below) (env along : Env) (at : Place) (word : List ℕ) (args : Arguments) (e : Expression)
    (s : State) → lone args ≡ Some e → node below env along (call at word args) s
    ≡ and_then (below.value env along e s)
    (λ d. called below at word (function_named word env) along args (d ∷ []))
unfolding node
node-lone below env along at word args e s is =
    ap (λ o. and_then o (called below at word (function_named word env) along args))
    (values-lone below env along args e s is)
    ∙ twice (below.value env along e s) (λ d. gives (d ∷ []))
    (called below at word (function_named word env) along args)

pub ruleset calls = (twice, supplied-next, supplied-end, called-own, called-known, node-lone)

-- ---- names in frames of their own
pub binds-named : (below : Below) (args : Arguments) (k : Held → Action Whole) (h : Held) (s : State)
    → binds below args k h s ≡ binds below (named_of args) k h s
unfolding binds
binds-named below no_arguments k h s = refl
binds-named below (argument None e more) k h s = binds-named below more k h s
binds-named below (argument (Some name) e more) k h s = refl

pub binds-some : (below : Below) (args more : Arguments) (name : List ℕ) (e : Expression) (k : Held → Action Whole)
    (h : Held) (s : State)
    → named_of args ≡ argument (Some name) e more
    → binds below args k h s ≡ and_then (below.value (env_in h) (along_in h) e s)
    (λ d. binds below more k (set_in_last name d h))
unfolding binds
binds-some below args more name e k h s is = binds-named below args k h s ∙ ap (λ a. binds below a k h s) is

pub binds-none : (below : Below) (args : Arguments) (k : Held → Action Whole) (h : Held) (s : State)
    → named_of args ≡ no_arguments → binds below args k h s ≡ k h s
unfolding binds
binds-none below args k h s is = binds-named below args k h s ∙ ap (λ a. binds below a k h s) is

-- frames that were opened for names, with these names
abbrev pub inner : Bound → Held → Held
inner b o = opened None (length o.frames) o.here b o

pub inner-env : (b : Bound) (o : Held) → env_in (inner b o) ≡ within (env_in o) b.names
unfolding env_in
inner-env b o = env_in-opened None o.here b o

pub inner-along : (b : Bound) (o : Held) → along_in (inner b o) ≡ within (along_in o) b.dollars
inner-along b o = along_in-opened None (length o.frames) o.here b o

pub inner-value : (below : Below) (e : Expression) (b : Bound) (o : Held) (s : State)
    → below.value (env_in (inner b o)) (along_in (inner b o)) e s
    ≡ below.value (within (env_in o) b.names) (within (along_in o) b.dollars) e s
inner-value below e b o s = ap₂ (λ x y. below.value x y e s) (inner-env b o) (inner-along b o)

pub inner-element : (below : Below) (e : Element) (b : Bound) (o : Held) (made : List Datum) (s : State)
    → below.element (env_in (inner b o)) (along_in (inner b o)) e made s
    ≡ below.element (within (env_in o) b.names) (within (along_in o) b.dollars) e made s
inner-element below e b o made s = ap₂ (λ x y. below.element x y e made s) (inner-env b o) (inner-along b o)

-- what is held between the names is what the definition binds
pub binds-inner : (below : Below) (args : Arguments) (k : Held → Action Whole) (b : Bound) (o : Held) (s : State)
    → binds below args k (inner b o) s
    ≡ and_then (bound_in_order below (env_in o) (along_in o) args b s) (λ c. k (inner c o))
unfolding binds bound_in_order
binds-inner below no_arguments k b o s = refl
binds-inner below (argument None e more) k b o s = binds-inner below more k b o s
binds-inner below (argument (Some name) e more) k b o s =
    ap (λ r. and_then r (λ d. binds below more k (set_in_last name d (inner b o)))) (inner-value below e b o s)
    ∙ same-then (below.value (within (env_in o) b.names) (within (along_in o) b.dollars) e s) _ _
    (λ d t. ap (λ h. binds below more k h t) (set_in_last-opened name d None (length o.frames) o.here b o)
    ∙ binds-inner below more k (set name d b) o t)
    ∙ sym (twice (below.value (within (env_in o) b.names) (within (along_in o) b.dollars) e s)
    (λ d. bound_in_order below (env_in o) (along_in o) more (set name d b)) (λ c. k (inner c o)))

-- the frames as a `let` opens them
pub opened-inner : (h o : Held) → IsInner h → bound_in h ≡ empty → outer h ≡ o → h ≡ inner empty o
opened-inner h o i none out = i.is ∙ ap₂ (λ b p. inner b p) none out

pub left-inner : (back : ℕ) (b : Bound) (o : Held) → back ≡ o.here → left back (inner b o) ≡ o
left-inner back b o is = left-opened back None (length o.frames) o.here b o is

-- the names of a `let`, and what follows its frames, which is what follows an expression or an element inside
pub binds-opened : {A : Type 0} (below : Below) (args : Arguments) (k : Held → Action Whole) (h o : Held)
    (f : Bound → Action A) (g : A → Action Whole) (s : State)
    → IsInner h → bound_in h ≡ empty → outer h ≡ o
    → ((b : Bound) (t : State) → k (inner b o) t ≡ and_then (f b t) g)
    → and_then (and_then (bound_in_order below (env_in o) (along_in o) args empty s) f) g ≡ binds below args k h s
binds-opened below args k h o f g s i none out ends =
    twice (bound_in_order below (env_in o) (along_in o) args empty s) f g
    ∙ sym (same-then (bound_in_order below (env_in o) (along_in o) args empty s) _ _ ends)
    ∙ sym (binds-inner below args k empty o s)
    ∙ ap (λ x. binds below args k x s) (sym (opened-inner h o i none out))

-- ---- a loop with start, test and step
pub repeats-none : (below : Below) (n : ℕ) (at : Place) (test : Expression) (steps : Arguments) (body : Element)
    (k : Held → List Datum → Action Whole) (h : Held) (made : List Datum) (s : State)
    → n ≡ 0 → repeats below n at test steps body k h made s ≡ over Steps at s
unfolding repeats
repeats-none below n at test steps body k h made s none = ap (λ m. repeats below m at test steps body k h made s) none

pub repeats-some : (below : Below) (n : ℕ) (at : Place) (test : Expression) (steps : Arguments) (body : Element)
    (k : Held → List Datum → Action Whole) (h : Held) (made : List Datum) (s : State)
    → n ≢ 0 → repeats below n at test steps body k h made s
    ≡ and_then (below.value (env_in h) (along_in h) test s)
    (turned below at steps body (repeats below (n - 1) at test steps body k) k h made)
unfolding repeats
repeats-some below zero at test steps body k h made s some = absurd (some refl)
repeats-some below (suc n) at test steps body k h made s some =
    ap (λ m. and_then (below.value (env_in h) (along_in h) test s)
    (turned below at steps body (repeats below m at test steps body k) k h made)) (omega arith)

pub ruleset loops = (twice, repeats-none, repeats-some)

module _ (below : Below) (at : Place) (test : Expression) (steps : Arguments) (body : Element) (o : Held) (k : Held → List Datum → Action Whole) (g : List Datum → Action Whole) (ends : (b : Bound) (made : List Datum) (t : State) → k (inner b o) made t ≡ g made t) where
  abbrev more : ℕ → Bound → List Datum → Action (List Datum)
  more n b made = loop_turns below n at test steps body (env_in o) (along_in o) b made

  abbrev again : ℕ → Held → List Datum → Action Whole
  again n = repeats below n at test steps body k

  module _ (n : ℕ) (rest_same : (c : Bound) (now : List Datum) (t : State) → again n (inner c o) now t ≡ and_then (more n c now t) g) (b : Bound) (made : List Datum) where
    abbrev names_then : List Datum → Action (List Datum)
    names_then now = bound_in_order below (env_in o) (along_in o) steps b >>= λ next. more n next now

    abbrev element_then : Action (List Datum)
    element_then = below.element (within (env_in o) b.names) (within (along_in o) b.dollars) body made >>= names_then

    abbrev on : Bool → Action (List Datum)
    on c = if c then (step at >>= λ _. element_then) else pure made

    after_names : (now : List Datum) (t : State) → binds below steps (λ h2. again n h2 now) (inner b o) t
        ≡ and_then (names_then now t) g
    after_names now t =
        binds-inner below steps (λ h2. again n h2 now) b o t
        ∙ same-then (bound_in_order below (env_in o) (along_in o) steps b t) _ _ (λ c u. rest_same c now u)
        ∙ sym (twice (bound_in_order below (env_in o) (along_in o) steps b t) (λ next. more n next now) g)

    after_element : (t : State) → and_then (below.element (env_in (inner b o)) (along_in (inner b o)) body made t)
        (λ now. binds below steps (λ h2. again n h2 now) (inner b o)) ≡ and_then (element_then t) g
    after_element t =
        ap (λ r. and_then r (λ now. binds below steps (λ h2. again n h2 now) (inner b o)))
        (inner-element below body b o made t)
        ∙ same-then (below.element (within (env_in o) b.names) (within (along_in o) b.dollars) body made t) _ _
        after_names
        ∙ sym (twice (below.element (within (env_in o) b.names) (within (along_in o) b.dollars) body made t)
        names_then g)

    after_test : (t : State) (c : Bool) → (if c then (step at >>= λ _. below.element (env_in (inner b o))
        (along_in (inner b o)) body made >>= λ now. binds below steps (λ h2. again n h2 now) (inner b o))
        else k (inner b o) made) t ≡ and_then (on c t) g
    after_test t true =
        same-then (step at t) _ _ (λ u t2. after_element t2)
        ∙ sym (twice (step at t) (λ u. element_then) g)
    after_test t false = ends b made t

    turn-inner : (s : State) → again (suc n) (inner b o) made s ≡ and_then (more (suc n) b made s) g
    unfolding repeats loop_turns turned renewed
    turn-inner s =
        ap (λ r. and_then r (turned below at steps body (again n) k (inner b o) made)) (inner-value below test b o s)
        ∙ same-then (below.value (within (env_in o) b.names) (within (along_in o) b.dollars) test s) _ _
        (λ d t. after_test t (truth d))
        ∙ sym (twice (below.value (within (env_in o) b.names) (within (along_in o) b.dollars) test s)
        (λ d. on (truth d)) g)

  -- what is held between the turns is what the definition's turns have
  pub repeats-inner : (n : ℕ) (b : Bound) (made : List Datum) (s : State) → again n (inner b o) made s
      ≡ and_then (more n b made s) g
  unfolding repeats loop_turns over
  repeats-inner zero b made s = refl
  repeats-inner (suc n) b made s = turn-inner n (repeats-inner n) b made s

-- ---- the frames of a call
module _ (below : Below) (home : ℕ) (o : Held) (there : home < length o.frames) where
  abbrev opened_home : Bound → Held
  opened_home b = opened None home home b o

  pub fills-opened : (ps : List Parameter) (k : Held → Action Whole) (b : Bound) (s : State)
      → fills below ps k (opened_home b) s
      ≡ and_then (defaulted below (env_at (envs o.frames) home) (along_in o) ps b s) (λ c. k (opened_home c))
  unfolding fills defaulted
  fills-opened [] k b s = refl
  fills-opened (p ∷ more) k b s =
      ap₂ (λ x y. and_then (default_value below x y p.default s)
      (λ d. fills below more k (set_in_last p.name d (opened_home b))))
      (env_in-before None home b o there) (along_in-opened None home home b o)
      ∙ same-then (default_value below (env_at (envs o.frames) home) (within (along_in o) b.dollars) p.default s) _ _
      (λ d t. ap (λ h. fills below more k h t) (set_in_last-opened p.name d None home home b o)
      ∙ fills-opened more k (set p.name d b) t)
      ∙ sym (twice (default_value below (env_at (envs o.frames) home) (within (along_in o) b.dollars) p.default s)
      (λ d. defaulted below (env_at (envs o.frames) home) (along_in o) more (set p.name d b))
      (λ c. k (opened_home c)))

-- ---- variables of a `for`
pub variables-named : (below : Below) (at : Place) (args : Arguments) (body : Element) (env along : Env)
    (so_far : List Datum) (s : State)
    → for_variables below at args body env along so_far s
    ≡ for_variables below at (named_of args) body env along so_far s
unfolding for_variables
variables-named below at no_arguments body env along so_far s = refl
variables-named below at (argument None e more) body env along so_far s
    = variables-named below at more body env along so_far s
variables-named below at (argument (Some name) e more) body env along so_far s = refl

pub variables-some : {C : Type 0} (below : Below) (at : Place) (args more : Arguments) (name : List ℕ)
    (e : Expression) (body : Element) (env along : Env) (so_far : List Datum) (s : State) (g : List Datum → Action C)
    → named_of args ≡ argument (Some name) e more
    → and_then (for_variables below at args body env along so_far s) g
    ≡ and_then (below.value env along e s)
    (λ d t. and_then (turns below at name (for_variables below at more body) env along (items d) so_far t) g)
unfolding for_variables
variables-some below at args more name e body env along so_far s g is =
    ap (λ r. and_then r g) (variables-named below at args body env along so_far s
    ∙ ap (λ a. for_variables below at a body env along so_far s) is)
    ∙ twice (below.value env along e s) (λ d. turns below at name (for_variables below at more body) env along
    (items d) so_far) g

pub variables-none : (below : Below) (at : Place) (args : Arguments) (body : Element) (env along : Env)
    (so_far : List Datum) (s : State)
    → named_of args ≡ no_arguments → for_variables below at args body env along so_far s
    ≡ below.element env along body so_far s
unfolding for_variables
variables-none below at args body env along so_far s is =
    variables-named below at args body env along so_far s
    ∙ ap (λ a. for_variables below at a body env along so_far s) is

pub ruleset names = (twice, binds-some, binds-none)

pub ruleset variables = (variables-some, variables-none)

-- ---- turns of a variable
pub turns-none : (below : Below) (at : Place) (name : List ℕ)
    (into : Env → Env → List Datum → Action (List Datum)) (env along : Env) (all so_far : List Datum) (s : State)
    → all ≡ [] → turns below at name into env along all so_far s ≡ gives so_far s
unfolding turns
turns-none below at name into env along all so_far s none
    = ap (λ l. turns below at name into env along l so_far s) none

pub ruleset turnings = (twice, turns-none)

-- ---- the end
abbrev paired : Held → Datum → Action Whole
paired h a = λ t. gives (a, h) t

abbrev state_in : Outcome Whole → Outcome Datum
state_in (gives p t) = gives p.0 t
state_in (refuses e t) = refuses e t

abbrev held_in : Held → Outcome Whole → Held
held_in h (gives p t) = p.1
held_in h (refuses e t) = h

pub state-paired : (o : Outcome Datum) (h : Held) → state_in (and_then o (paired h)) ≡ o
state-paired (gives a t) h = refl
state-paired (refuses e t) h = refl

pub held-paired : (o : Outcome Datum) (h : Held) → held_in h (and_then o (paired h)) ≡ h
held-paired (gives a t) h = refl
held-paired (refuses e t) h = refl

pub end-value : (o : Outcome Datum) (h h2 : Held) (d : Datum) (s : State) → and_then o (paired h) ≡ gives (d, h2) s
    → o ≡ gives d s
end-value o h h2 d s is = sym (state-paired o h) ∙ ap state_in is

pub end-held : (o : Outcome Datum) (h h2 : Held) (d : Datum) (s : State) → and_then o (paired h) ≡ gives (d, h2) s
    → h2 ≡ h
end-held o h h2 d s is = sym (ap (held_in h) is) ∙ held-paired o h

pub end-refused : (o : Outcome Datum) (h : Held) (e : EvalFault) (s : State) → and_then o (paired h) ≡ refuses e s
    → o ≡ refuses e s
end-refused o h e s is = sym (state-paired o h) ∙ ap state_in is

pub ruleset ends = (end-value, end-held, end-refused)
