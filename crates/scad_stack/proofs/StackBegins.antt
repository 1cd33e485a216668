-- Parts that begin on the stack, as the code has them.
use Rattle.std.proofs.Common.{◌≡◌, ℕ, suc, ◌+◌, ◌<◌, ◌≤◌, Bool, true, if◌then◌else◌, List, [], ◌∷◌, ◌++◌, map, length, get_or, drop, Option, Some, None, option_map, Vec, Box, Global, codes, refl, sym, ap, ap₂, ◌∙◌}
use Rattle.std.proofs.lemmas.List.{drop_more, drop_all}
use Rattle.std.specs.Borrow.{Bor}
use Rattle.std.specs.List.{flat_map}
use Rattle.scad_fault.specs.declared.place.Place.{Place}
use Rattle.scad_ast.specs.declared.expression.Expr.{Expr}
use Rattle.scad_ast.specs.declared.expression.Elem.{Elem}
use Rattle.scad_ast.specs.declared.statement.Param.{Param}
use Rattle.scad_ast.specs.Scope.{parameter}
use Rattle.scad_ast.specs.Tree.{Expression, Arguments, Element, Elements, Parameter, vector, each, for_loop, let_in, let_element}
use Rattle.scad_ast.specs.View.{expression_of, element_of, arguments}
use Rattle.scad_value.specs.Datum.{Datum, undef}
use Rattle.scad_value.specs.Datum.{vector as vector_datum}
use Rattle.scad_value.specs.Comparison.{truth}
use Rattle.scad_scope.specs.Env.{Env}
use Rattle.scad_scope.specs.FrameStore.{env_at, envs}
use Rattle.scad_operations.specs.declared.part.Part.{Part}
use Rattle.scad_operations.specs.declared.remainder.Remainder.{Remainder}
use Rattle.scad_stack.specs.declared.frame.Frame.TheVariants.{Gathering as GatheringFrame, Round as RoundFrame}
use Rattle.scad_stack.specs.declared.frame.Gathering.TheVariants.{Vector, Each, If}
use Rattle.scad_stack.specs.declared.frame.Round.TheVariants.{Turns, Body}
use Rattle.scad_stack.specs.declared.frame.Inside.TheVariants.{Value as InsideValue, Element as InsideElement, Turns as InsideTurns}
use Rattle.scad_stack.specs.declared.frame.Loop.{Loop}
use Rattle.scad_stack.specs.declared.frame.Opening.{Opening}
use Rattle.scad_stack.specs.declared.frame.Variable.{Variable}
use Rattle.scad_stack.specs.declared.frame.Turning.{Turning}
use Rattle.scad_machine.specs.State.{State, Outcome, gives, refuses, Action, pure, and_then, ◌>>=◌, step, make, step_limit}
use Rattle.scad_machine.specs.Machine.{Held, env_in, along_in}
use Rattle.scad_machine.specs.Functions.{Found}
use Rattle.scad_machine.specs.Parameters.{missing, parameter_names}
use Rattle.scad_machine.specs.Arguments.{given, set_all}
use Rattle.scad_operations.specs.Parts.{parts_in}
use Rattle.scad_operations.specs.Runs.{as_elements, items, left_in}
use Rattle.scad_machine.specs.Variables.{Bound, set, empty, within}
use Rattle.scad_stack.specs.Meaning.{Below, meaning, value, node, element_node, default_value, bound, called_own, bound_in_order, loop_turns, turns, for_variables, judge_named}
use Rattle.scad_stack.specs.Meaning.{elements as elements_given}
use Rattle.scad_machine.specs.OpenFrames.{opened, set_in_last, left, bound_in, outer, IsInner}
use Rattle.scad_stack.specs.Pieces.{chosen_element, if_with, defaulted}
use Rattle.scad_stack.specs.Stack.{Whole, Rest, added, gathers, goes_round, onto, fills, entered, binding, inside_of, looped, loop_of, renewed, turned, turning, turns_of}
use Rattle.scad_stack.proofs.Loops.{twice, same-then, call-begins}
use Rattle.scad_machine.proofs.OpenFrames.{env_in-opened, along_in-opened, left-opened, gone-opened}
use Rattle.scad_stack.proofs.StackTurns.{inner-value, inner-element, left-inner, binds-opened, repeats-inner, fills-opened}

-- ---- vectors
pub vector-begins : (below : Below) (at : Place) (es : Elements) (k k2 : Rest) (h : Held) (made none : List Datum)
    (outer : Vec Part Global) (s : State)
    → parts_in outer ≡ made → none ≡ [] → k2 ≡ onto (GatheringFrame (Vector at outer)) k
    → and_then (node below (env_in h) (along_in h) (vector at es) s) (k h made)
    ≡ and_then (elements_given below (env_in h) (along_in h) es none s) (added k2 h)
unfolding node onto gathers goes_round
vector-begins below at es k k2 h made none outer s same empty is =
    twice (elements_given below (env_in h) (along_in h) es [] s) (λ found. make at (vector_datum (as_elements found)))
    (k h made)
    ∙ ap (λ m. and_then (elements_given below (env_in h) (along_in h) es [] s)
    (λ found t. and_then (make at (vector_datum (as_elements found)) t) (k h m))) (sym same)
    ∙ ap₂ (λ m q. and_then (elements_given below (env_in h) (along_in h) es m s) (added q h)) (sym empty) (sym is)

pub each-begins : (below : Below) (e : Element) (k k2 : Rest) (h : Held) (made none : List Datum)
    (outer : Vec Part Global) (s : State)
    → parts_in outer ≡ made → none ≡ [] → k2 ≡ onto (GatheringFrame (Each outer)) k
    → and_then (and_then (below.element (env_in h) (along_in h) e [] s)
    (λ found. pure (made ++ flat_map items found))) (added k h)
    ≡ and_then (below.element (env_in h) (along_in h) e none s) (added k2 h)
unfolding onto gathers goes_round
each-begins below e k k2 h made none outer s same empty is =
    twice (below.element (env_in h) (along_in h) e [] s) (λ found. pure (made ++ flat_map items found)) (added k h)
    ∙ ap (λ m. and_then (below.element (env_in h) (along_in h) e [] s)
    (λ found. added k h (m ++ flat_map items found))) (sym same)
    ∙ ap₂ (λ m q. and_then (below.element (env_in h) (along_in h) e m s) (added q h)) (sym empty) (sym is)

-- ---- names
pub let-begins : (depth back : ℕ) (e : Bor Expr) (args : Arguments) (k : Rest) (h o : Held) (made : List Datum)
    (s : State)
    → IsInner h → bound_in h ≡ empty → outer h ≡ o → back ≡ o.here
    → and_then (and_then (bound_in_order (meaning depth) (env_in o) (along_in o) args empty s)
    (λ b. value depth (within (env_in o) b.names) (within (along_in o) b.dollars) (expression_of e.now))) (k o made)
    ≡ binding (record { inside = InsideValue e; back = back; depth = depth }) args k made h s
unfolding inside_of
let-begins depth back e args k h o made s i none out is =
    binds-opened (meaning depth) args (inside_of (InsideValue e) back depth k made) h o
    (λ b. value depth (within (env_in o) b.names) (within (along_in o) b.dollars) (expression_of e.now)) (k o made) s i
    none out
    (λ b t. ap₂ (λ r x. and_then r (k x made)) (inner-value (meaning depth) (expression_of e.now) b o t)
    (left-inner back b o is))

pub let-element-begins : (depth back : ℕ) (e : Bor Elem) (args : Arguments) (k : Rest) (h o : Held)
    (made : List Datum) (s : State)
    → IsInner h → bound_in h ≡ empty → outer h ≡ o → back ≡ o.here
    → and_then (and_then (bound_in_order (meaning depth) (env_in o) (along_in o) args empty s)
    (λ b. (meaning depth).element (within (env_in o) b.names) (within (along_in o) b.dollars) (element_of e.now) made))
    (added k o)
    ≡ binding (record { inside = InsideElement e; back = back; depth = depth }) args k made h s
unfolding inside_of
let-element-begins depth back e args k h o made s i none out is =
    binds-opened (meaning depth) args (inside_of (InsideElement e) back depth k made) h o
    (λ b. (meaning depth).element (within (env_in o) b.names) (within (along_in o) b.dollars) (element_of e.now) made)
    (added k o) s i none out
    (λ b t. ap₂ (λ r x. and_then r (added k x)) (inner-element (meaning depth) (element_of e.now) b o made t)
    (left-inner back b o is))

pub loop-begins : (depth back : ℕ) (held : Box Loop Global) (args : Arguments) (k : Rest) (h o : Held)
    (made : List Datum) (s : State)
    → IsInner h → bound_in h ≡ empty → outer h ≡ o → back ≡ o.here
    → and_then (and_then (bound_in_order (meaning depth) (env_in o) (along_in o) args empty s)
    (λ b. loop_turns (meaning depth) held.value.turns held.value.at (expression_of held.value.test.now)
    (arguments held.value.steps.now) (element_of held.value.body.now)
    (env_in o) (along_in o) b made)) (added k o)
    ≡ binding (record { inside = InsideTurns held; back = back; depth = depth }) args k made h s
unfolding inside_of
loop-begins depth back held args k h o made s i none out is =
    let l = held.value in
    binds-opened (meaning depth) args (inside_of (InsideTurns held) back depth k made) h o
    (λ b. loop_turns (meaning depth) l.turns l.at (expression_of l.test.now) (arguments l.steps.now)
    (element_of l.body.now)
    (env_in o) (along_in o) b made) (added k o) s i none out
    (λ b t. repeats-inner (meaning depth) l.at (expression_of l.test.now) (arguments l.steps.now)
    (element_of l.body.now) o
    (λ h2 now. added k (left back h2) now) (added k o)
    (λ c now u. ap (λ x. added k x now u) (left-inner back c o is)) l.turns b made t)

-- a turn of a loop with start, test and step whose test holds
pub test-holds : (held : Box Loop Global) (back depth : ℕ) (k k1 : Rest) (h h1 : Held) (made made1 : List Datum)
    (d : Datum) (s s1 : State)
    → truth d ≡ true → step held.value.at s ≡ gives tt s1 → h1 ≡ h → made1 ≡ made
    → k1 ≡ onto (RoundFrame (Body held back depth)) k → turning held.value back depth k h made d s
    ≡ and_then ((meaning depth).element (env_in h1) (along_in h1) (element_of held.value.body.now) made1 s1)
    (added k1 h1)
unfolding turned onto gathers goes_round
test-holds held back depth k k1 h h1 made made1 d s s1 holds stepped kept same is =
    let l = held.value in
    let body = element_of l.body.now in
    let again : Held → List Datum → Action Whole = looped l l.turns back depth k in
    let names : List Datum → Action Whole = λ now. renewed (meaning depth) (arguments l.steps.now) again now h in
    let on : Action Whole = step l.at >>= λ _. (meaning depth).element (env_in h) (along_in h) body made >>= names in
    ap (λ (b : Bool). (if b then on else added k (left back h) made) s) holds
    ∙ ap (λ r. and_then r (λ _ t. and_then ((meaning depth).element (env_in h) (along_in h) body made t) names))
    stepped
    ∙ ap (λ (q : Rest). and_then ((meaning depth).element (env_in h) (along_in h) body made s1) (added q h)) (sym is)
    ∙ ap₂ (λ (x : Held) m. and_then ((meaning depth).element (env_in x) (along_in x) body m s1) (added k1 x))
    (sym kept) (sym same)

-- ---- calls
-- the function's expression, once its parameters are set
pub entered-opened : (opening : Opening) (k : Rest) (made : List Datum) (home : ℕ) (o : Held) (b : Bound) (t : State)
    → opening.inner ≡ length o.frames → opening.back ≡ o.here
    → entered opening k made (opened None home home b o) t
    ≡ and_then (value opening.depth (within (env_at (envs o.frames) home) b.names) (within (along_in o) b.dollars)
    (expression_of opening.body.now) t) (k o made)
unfolding entered
entered-opened opening k made home o b t is was =
    let d = opening.depth in
    let e = expression_of opening.body.now in
    let at : Held → Outcome Whole = λ (x : Held). and_then (value d (env_in x) (along_in x) e t) (k (left opening.back x) made) in
    ap at (gone-opened None opening.inner home home b o)
    ∙ ap (λ i. at (opened None i home b o)) is
    ∙ ap₂ (λ x y. and_then (value d x y e t) (k (left opening.back (opened None (length o.frames) home b o)) made))
    (env_in-opened None home b o) (along_in-opened None (length o.frames) home b o)
    ∙ ap (λ x. and_then (value d (within (env_at (envs o.frames) home) b.names) (within (along_in o) b.dollars) e t)
    (k x made))
    (left-opened opening.back None (length o.frames) home b o was)

-- a call whose frames are opened: its defaults, and the function's expression
pub own-begins : (depth home : ℕ) (f : Found) (params : List Param) (args : Arguments) (found : List Datum)
    (opening : Opening) (k : Rest) (h o : Held) (made : List Datum) (s t : State) (ps : List Parameter)
    → home < length o.frames
    → f ≡ record {
      function = record { parameters = map parameter params; body = expression_of opening.body.now };
      home = env_at (envs o.frames) home;
    }
    → h ≡ opened None home home (set_all (given (parameter_names params) args found) empty) o
    → ps ≡ missing (given (parameter_names params) args found) (map parameter params)
    → opening.inner ≡ length o.frames → opening.back ≡ o.here → opening.depth ≡ depth → t ≡ s
    → and_then (called_own (meaning depth) (along_in o) f args found s) (k o made)
    ≡ fills (meaning opening.depth) ps (entered opening k made) h t
unfolding called_own
own-begins depth home f params args found opening k h o made s t ps there is held others inside was deep same =
    let below = meaning opening.depth in
    let env = env_at (envs o.frames) home in
    let along = along_in o in
    let b0 = set_all (given (parameter_names params) args found) empty in
    let e = expression_of opening.body.now in
    let body : Bound → Action Datum = λ b. value opening.depth (within env b.names) (within along b.dollars) e in
    ap (λ d. and_then (called_own (meaning d) along f args found s) (k o made)) (sym deep)
    ∙ ap (λ (g : Found). and_then (called_own below along g args found s) (k o made)) is
    ∙ twice (bound below env along (map parameter params) args found s) body (k o made)
    ∙ ap (λ r. and_then r (λ b u. and_then (body b u) (k o made)))
    (sym (call-begins below env along params args found ps b0 s t others refl (sym same)))
    ∙ sym (same-then (defaulted below env along ps b0 t) _ _
    (λ b u. entered-opened opening k made home o b u inside was))
    ∙ sym (fills-opened below home o there ps (entered opening k made) b0 t)
    ∙ ap (λ x. fills below ps (entered opening k made) x t) (sym held)

-- ---- parameters without a default, up to one with it
pub fills-past : (all : List (Bor Param)) (i : ℕ) (below : Below) (k : Held → Action Whole) (h : Held) (s : State)
    → length all ≤ i → fills below (map (λ p. parameter p.now) (drop i all)) k h s ≡ k h s
unfolding fills
fills-past all i below k h s past = ap (λ l. fills below (map (λ p. parameter p.now) l) k h s) (drop_all i all past)

pub fills-next : (all : List (Bor Param)) (i : ℕ) (p : Bor Param) (below : Below) (k : Held → Action Whole)
    (h : Held) (s : State)
    → i < length all → p ≡ get_or all i p
    → fills below (map (λ p. parameter p.now) (drop i all)) k h s
    ≡ and_then (default_value below (env_in h) (along_in h) (parameter p.now).default s)
    (λ d. fills below (map (λ p. parameter p.now) (drop (i + 1) all)) k (set_in_last p.now.name d h))
unfolding fills
fills-next all i p below k h s there is =
    ap (λ l. fills below (map (λ p. parameter p.now) l) k h s) (drop_more all i p there)
    ∙ ap (λ (q : Bor Param). and_then (default_value below (env_in h) (along_in h) (parameter q.now).default s)
    (λ d. fills below (map (λ p. parameter p.now) (drop (i + 1) all)) k (set_in_last q.now.name d h))) (sym is)

pub fills-undefined : (all : List (Bor Param)) (i : ℕ) (p : Bor Param) (below : Below) (k : Held → Action Whole)
    (h n : Held) (s : State)
    → i < length all → p ≡ get_or all i p → p.now.default ≡ None → n ≡ set_in_last p.now.name undef h
    → fills below (map (λ p. parameter p.now) (drop i all)) k h s
    ≡ fills below (map (λ p. parameter p.now) (drop (i + 1) all)) k n s
unfolding default_value
fills-undefined all i p below k h n s there is none made =
    fills-next all i p below k h s there is
    ∙ ap (λ x. and_then (default_value below (env_in h) (along_in h) (option_map expression_of x) s)
    (λ d. fills below (map (λ p. parameter p.now) (drop (i + 1) all)) k (set_in_last p.now.name d h))) none
    ∙ ap (λ x. fills below (map (λ p. parameter p.now) (drop (i + 1) all)) k x s) (sym made)

pub fills-defined : (all : List (Bor Param)) (i : ℕ) (p : Bor Param) (e : Expr) (below : Below)
    (k : Held → Action Whole) (h : Held) (s : State)
    → i < length all → p ≡ get_or all i p → p.now.default ≡ Some e
    → fills below (map (λ p. parameter p.now) (drop i all)) k h s
    ≡ and_then (below.value (env_in h) (along_in h) (expression_of e) s)
    (λ d. fills below (map (λ p. parameter p.now) (drop (i + 1) all)) k (set_in_last p.now.name d h))
unfolding default_value
fills-defined all i p e below k h s there is some =
    fills-next all i p below k h s there is
    ∙ ap (λ x. and_then (default_value below (env_in h) (along_in h) (option_map expression_of x) s)
    (λ d. fills below (map (λ p. parameter p.now) (drop (i + 1) all)) k (set_in_last p.now.name d h))) some

-- ---- a turn of a variable
pub turn-begins : (t : Turning) (held : Box Turning Global) (v : Variable) (d : Datum) (k k3 : Rest)
    (h h3 : Held) (made made3 : List Datum) (s s2 s3 : State)
    → v ≡ t.variable → held.value.variable ≡ v → held.value.left ≡ t.left
    → step v.at s ≡ gives tt s2 → k3 ≡ onto (RoundFrame (Turns held)) k
    → env_in h3 ≡ within (env_in h) (set v.name.now d empty).names
    → along_in h3 ≡ within (along_in h) (set v.name.now d empty).dollars
    → left held.value.back h3 ≡ h → made3 ≡ made → s3 ≡ s2
    → and_then (turns_of t.variable h (d ∷ left_in t.left) made s) (added k h)
    ≡ and_then (for_variables (meaning v.depth) v.at (arguments v.more.now) (element_of v.body.now) (env_in h3)
    (along_in h3) made3 s3) (added k3 h3)
unfolding turns onto goes_round
turn-begins t held v d k k3 h h3 made made3 s s2 s3 same_variable held_variable lefts stepped is3 env_is along_is
    back_is made_is same =
    let more = t.left in
    let into : Env → Env → List Datum → Action (List Datum) = for_variables (meaning v.depth) v.at (arguments v.more.now) (element_of v.body.now) in
    let rest_turns : List Datum → Action (List Datum) = turns (meaning v.depth) v.at v.name.now into (env_in h) (along_in h) (left_in more) in
    let e2 = within (env_in h) (set v.name.now d empty).names in
    let a2 = within (along_in h) (set v.name.now d empty).dollars in
    ap (λ (x : Variable). and_then (turns_of x h (d ∷ left_in more) made s) (added k h)) (sym same_variable)
    ∙ ap (λ r. and_then (and_then r (λ _ u. and_then (into e2 a2 made u) rest_turns)) (added k h)) stepped
    ∙ twice (into e2 a2 made s2) rest_turns (added k h)
    ∙ ap (λ (y : Held). and_then (into e2 a2 made s2)
    (λ now u. and_then (turns_of v y (left_in more) now u) (added k y))) (sym back_is)
    ∙ ap₂ (λ x y. and_then (into x y made s2)
    (λ now u. and_then (turns_of v (left held.value.back h3) (left_in more) now u)
    (added k (left held.value.back h3)))) (sym env_is) (sym along_is)
    ∙ ap₂ (λ m u. and_then (into (env_in h3) (along_in h3) m u)
    (λ now w. and_then (turns_of v (left held.value.back h3) (left_in more) now w)
    (added k (left held.value.back h3)))) (sym made_is) (sym same)
    ∙ ap₂ (λ (x : Variable) (c : Remainder). and_then (into (env_in h3) (along_in h3) made3 s3)
    (λ now w. and_then (turns_of x (left held.value.back h3) (left_in c) now w)
    (added k (left held.value.back h3)))) (sym held_variable) (sym lefts)
    ∙ ap (λ (q : Rest). and_then (into (env_in h3) (along_in h3) made3 s3) (added q h3)) (sym is3)

-- ---- nodes with names, as the code begins them
pub let-node-begins : (depth back : ℕ) (at : Place) (e : Bor Expr) (args : Arguments) (k : Rest) (h o : Held)
    (made : List Datum) (s t : State)
    → judge_named at (codes "let") args s ≡ gives tt s → IsInner h → bound_in h ≡ empty → outer h ≡ o
    → back ≡ o.here → t ≡ s
    → and_then (node (meaning depth) (env_in o) (along_in o) (let_in at args (expression_of e.now)) s) (k o made)
    ≡ binding (record { inside = InsideValue e; back = back; depth = depth }) args k made h t
unfolding node
let-node-begins depth back at e args k h o made s t judged i none out is same =
    ap (λ r. and_then (and_then r (λ _ u. and_then
    (bound_in_order (meaning depth) (env_in o) (along_in o) args empty u)
    (λ b. value depth (within (env_in o) b.names) (within (along_in o) b.dollars) (expression_of e.now)))) (k o made))
    judged
    ∙ let-begins depth back e args k h o made s i none out is
    ∙ ap (λ u. binding (record { inside = InsideValue e; back = back; depth = depth }) args k made h u) (sym same)

pub let-element-node-begins : (depth back : ℕ) (at : Place) (e : Bor Elem) (args : Arguments) (k : Rest) (h o : Held)
    (made : List Datum) (s s1 t : State)
    → step at s ≡ gives tt s1 → judge_named at (codes "let") args s1 ≡ gives tt s1 → IsInner h
    → bound_in h ≡ empty → outer h ≡ o → back ≡ o.here → t ≡ s1
    → and_then (element_node (meaning depth) (env_in o) (along_in o) (let_element at args (element_of e.now)) made s)
    (added k o)
    ≡ binding (record { inside = InsideElement e; back = back; depth = depth }) args k made h t
unfolding element_node
let-element-node-begins depth back at e args k h o made s s1 t stepped judged i none out is same =
    let f : Bound → Action (List Datum) = λ b. (meaning depth).element (within (env_in o) b.names) (within (along_in o) b.dollars) (element_of e.now) made in
    let bounds : State → Outcome (List Datum) = λ u. and_then (bound_in_order (meaning depth) (env_in o) (along_in o) args empty u) f in
    ap (λ r. and_then (and_then r (λ _ u. and_then (judge_named at (codes "let") args u) (λ _. bounds))) (added k o))
    stepped
    ∙ ap (λ r. and_then (and_then r (λ _. bounds)) (added k o)) judged
    ∙ let-element-begins depth back e args k h o made s1 i none out is
    ∙ ap (λ u. binding (record { inside = InsideElement e; back = back; depth = depth }) args k made h u) (sym same)

pub loop-node-begins : (depth back : ℕ) (l : Loop) (held : Box Loop Global) (args : Arguments) (k : Rest) (h o : Held) (made : List Datum)
    (s s1 t : State)
    → held.value ≡ l
    → step l.at s ≡ gives tt s1 → judge_named l.at (codes "for") args s1 ≡ gives tt s1
    → judge_named l.at (codes "for") (arguments l.steps.now) s1 ≡ gives tt s1
    → IsInner h → bound_in h ≡ empty → outer h ≡ o → back ≡ o.here → t ≡ s1
    → and_then (loop_of l depth args o made s) (added k o)
    ≡ binding (record { inside = InsideTurns held; back = back; depth = depth }) args k made h t
loop-node-begins depth back l held args k h o made s s1 t boxed stepped judged judged2 i none out is same =
    let f : Bound → Action (List Datum) = λ b. loop_turns (meaning depth) l.turns l.at (expression_of l.test.now) (arguments l.steps.now)
    (element_of l.body.now) (env_in o) (along_in o) b made in
    let bounds : State → Outcome (List Datum) = λ u. and_then (bound_in_order (meaning depth) (env_in o) (along_in o) args empty u) f in
    let second : State → Outcome (List Datum) = λ u. and_then (judge_named l.at (codes "for") (arguments l.steps.now) u) (λ _. bounds) in
    ap (λ r. and_then (and_then r (λ _ u. and_then (judge_named l.at (codes "for") args u) (λ _. second)))
    (added k o)) stepped
    ∙ ap (λ r. and_then (and_then r (λ _. second)) (added k o)) judged
    ∙ ap (λ r. and_then (and_then r (λ _. bounds)) (added k o)) judged2
    ∙ ap (λ (x : Loop). and_then (and_then (bound_in_order (meaning depth) (env_in o) (along_in o) args empty s1)
    (λ b. loop_turns (meaning depth) x.turns x.at (expression_of x.test.now) (arguments x.steps.now)
    (element_of x.body.now) (env_in o) (along_in o) b made)) (added k o)) (sym boxed)
    ∙ loop-begins depth back held args k h o made s1 i none out is
    ∙ ap (λ u. binding (record { inside = InsideTurns held; back = back; depth = depth }) args k made h u) (sym same)

pub each-node-begins : (below : Below) (at : Place) (e : Element) (k k2 : Rest) (h h2 : Held) (made none : List Datum)
    (outer : Vec Part Global) (s s1 : State)
    → step at s ≡ gives tt s1 → h2 ≡ h → parts_in outer ≡ made → none ≡ []
    → k2 ≡ onto (GatheringFrame (Each outer)) k
    → and_then (element_node below (env_in h) (along_in h) (each at e) made s) (added k h)
    ≡ and_then (below.element (env_in h2) (along_in h2) e none s1) (added k2 h2)
unfolding element_node
each-node-begins below at e k k2 h h2 made none outer s s1 stepped kept same empty is =
    ap (λ r. and_then (and_then r (λ _ u. and_then (below.element (env_in h) (along_in h) e [] u)
    (λ found. pure (made ++ flat_map items found)))) (added k h)) stepped
    ∙ each-begins below e k k2 h made none outer s1 same empty is
    ∙ ap (λ (x : Held). and_then (below.element (env_in x) (along_in x) e none s1) (added k2 x)) (sym kept)

-- a step, an action, and what follows both
later-begins : {A B C D : Type 0} (o : Outcome A) (v : Action B) (f : B → Action C) (g : C → Action D)
    → and_then (and_then o (λ _ t. and_then (v t) f)) g
    ≡ and_then (and_then o (λ _. v)) (λ d u. and_then (f d u) g)
later-begins (gives a t) v f g = twice (v t) f g
later-begins (refuses e t) v f g = refl

pub if-begins : (depth : ℕ) (at : Place) (test : Expression) (e : Bor Elem) (other : Option (Bor Elem)) (h : Held)
    (k : Rest) (made : List Datum) (s : State)
    → and_then (element_node (meaning depth) (env_in h) (along_in h)
    (if_with at test (element_of e.now) (option_map (λ (b : Bor Elem). element_of b.now) other)) made s) (added k h)
    ≡ and_then (and_then (step at s) (λ _. value depth (env_in h) (along_in h) test))
    (onto (GatheringFrame (If e other depth)) k h made)
unfolding element_node onto gathers goes_round chosen_element if_with
if-begins depth at test e None h k made s =
    later-begins (step at s) (value depth (env_in h) (along_in h) test)
    (λ d. chosen_element (meaning depth) (env_in h) (along_in h) d (element_of e.now) None made) (added k h)
if-begins depth at test e (Some other) h k made s =
    later-begins (step at s) (value depth (env_in h) (along_in h) test)
    (λ d. chosen_element (meaning depth) (env_in h) (along_in h) d (element_of e.now) (Some (element_of other.now))
    made) (added k h)

-- ---- nodes and elements as the code reads them
pub node-same : (depth : ℕ) (h : Held) (k : Rest) (made : List Datum) (s : State) (x y : Expression) → x ≡ y
    → and_then (node (meaning depth) (env_in h) (along_in h) y s) (k h made)
    ≡ and_then (node (meaning depth) (env_in h) (along_in h) x s) (k h made)
node-same depth h k made s x y is = ap (λ e. and_then (node (meaning depth) (env_in h) (along_in h) e s) (k h made))
    (sym is)

pub element-same : (depth : ℕ) (h : Held) (k : Rest) (made : List Datum) (s : State) (x y : Element) → x ≡ y
    → and_then (element_node (meaning depth) (env_in h) (along_in h) y made s) (added k h)
    ≡ and_then (element_node (meaning depth) (env_in h) (along_in h) x made s) (added k h)
element-same depth h k made s x y is = ap (λ e. and_then
    (element_node (meaning depth) (env_in h) (along_in h) e made s) (added k h)) (sym is)

pub loop-same : (depth : ℕ) (l : Loop) (starts : Arguments) (h : Held) (k : Rest) (made : List Datum) (s : State)
    (y : Element)
    → l.turns ≡ suc step_limit → for_loop l.at starts (expression_of l.test.now) (arguments l.steps.now)
    (element_of l.body.now) ≡ y
    → and_then (element_node (meaning depth) (env_in h) (along_in h) y made s) (added k h)
    ≡ and_then (loop_of l depth starts h made s) (added k h)
unfolding element_node
loop-same depth l starts h k made s y all is =
    element-same depth h k made s _ y is
    ∙ ap (λ n. and_then (loop_of (record l { turns = n }) depth starts h made s) (added k h)) (sym all)

pub ruleset parameters = (fills-past, fills-undefined, fills-defined)
