-- What is left to do: what each frame of the stack does with a value, and what is at work.
use Rattle.std.specs.Prelude.{◌≡◌, ◌≢◌, ℕ, zero, suc, ◌+◌, ◌*◌, ◌≤◌, List, [], ◌∷◌, ◌++◌, length, map, drop, option_map, Result, Ok, Err, Some, None, if◌then◌else◌, IfOk, OnOk, codes}
use Rattle.std.specs.Borrow.{Bor}
use Rattle.std.specs.List.{flat_map}
use Rattle.scad_fault.specs.declared.place.Place.{Place}
use Rattle.scad_ast.specs.declared.expression.Elem.{Elem}
use Rattle.scad_ast.specs.Scope.{parameter}
use Rattle.scad_ast.specs.Tree.{Expression, Arguments, no_arguments, argument, Element, Parameter}
use Rattle.scad_ast.specs.Tree.{call as call_at, assert_in, echo_in}
use Rattle.scad_ast.specs.View.{expression_of, arguments, element_of, elements}
use Rattle.scad_value.specs.Datum.{Datum, undef, vector}
use Rattle.scad_value.specs.Comparison.{truth}
use Rattle.scad_value.specs.Operators.{op}
use Rattle.scad_value.specs.View.{datum_of, data_in}
use Rattle.scad_value.specs.declared.value.Value.{Value}
use Rattle.scad_scope.specs.Env.{Env}
use Rattle.scad_machine.specs.declared.fault.EvalFault.{EvalFault}
use Rattle.scad_machine.specs.declared.fault.EvalFault.TheVariants.{Memory}
use Rattle.scad_stack.specs.declared.frame.Written.{Written}
use Rattle.scad_stack.specs.declared.purpose.Purpose.{Purpose}
use Rattle.scad_stack.specs.declared.purpose.Purpose.TheVariants.{Call, Assert, Echo}
use Rattle.scad_stack.specs.declared.frame.Opening.{Opening}
use Rattle.scad_stack.specs.declared.frame.Loop.{Loop}
use Rattle.scad_stack.specs.declared.frame.Inside.{Inside}
use Rattle.scad_stack.specs.declared.frame.Inside.TheVariants.{Value as InsideValue, Element as InsideElement, Turns as InsideTurns}
use Rattle.scad_stack.specs.declared.frame.Within.{Within}
use Rattle.scad_stack.specs.declared.frame.Variable.{Variable}
use Rattle.scad_stack.specs.declared.frame.Frame.{Frame}
use Rattle.scad_stack.specs.declared.frame.Frame.TheVariants.{Operand, Operation as OperationFrame, Further as FurtherFrame, Arguments as ArgumentsFrame, Default, Leave, Bind, Gathering as GatheringFrame, Round as RoundFrame}
use Rattle.scad_stack.specs.declared.frame.Further.{Further}
use Rattle.scad_stack.specs.declared.frame.Further.TheVariants.{RangeEnd, StepAndEnd, SteppedEnd, Right as RightSide, Sides, IndexOf}
use Rattle.scad_stack.specs.declared.frame.Gathering.{Gathering}
use Rattle.scad_stack.specs.declared.frame.Gathering.TheVariants.{Vector, Elements, Item, Each, If}
use Rattle.scad_stack.specs.declared.frame.Round.{Round}
use Rattle.scad_stack.specs.declared.frame.Round.TheVariants.{Over, Turns, Test, Body}
use Rattle.scad_stack.specs.declared.frame.Focus.{Focus}
use Rattle.scad_stack.specs.declared.frame.Focus.TheVariants.{Part, Element as ElementFocus, Given}
use Rattle.scad_stack.specs.declared.stack.Stack.{Stack}
use Rattle.scad_machine.specs.declared.machine.Machine.{Machine}
use Rattle.scad_machine.specs.Answers.{Does, nothing}
use Rattle.scad_machine.specs.State.{State, Outcome, refuses, Action, pure, and_then, ◌>>=◌, ◌>>◌, over, step, make, say}
use Rattle.scad_fault.specs.declared.budget.BudgetKind.TheVariants.{Steps}
use Rattle.scad_machine.specs.Machine.{Held, held, env_in, along_in, state_of}
use Rattle.scad_machine.specs.Functions.{function_named}
use Rattle.scad_stack.specs.Meaning.{Below, meaning, value, operated, asserted, values, default_value, called, turns, for_variables, right_side, node, judge_named, bound_in_order, loop_turns}
use Rattle.scad_stack.specs.Meaning.{elements as elements_given}
use Rattle.scad_operations.specs.Operation.{operates}
use Rattle.scad_machine.specs.OpenFrames.{set_in_last, left}
use Rattle.scad_operations.specs.Parts.{parts_in}
use Rattle.scad_stack.specs.Pieces.{range_end, stepped_end, step_and_end, side, index_of, chosen_element}
use Rattle.scad_machine.specs.EchoLines.{echo_line}
use Rattle.scad_operations.specs.Runs.{items, as_elements, left_in}
use Rattle.scad_machine.specs.Variables.{empty}

-- a value, and what is held then
abbrev pub Whole : Type 0
Whole = Datum × Held

-- what follows a value: it takes what the machine holds, the vector that is being made, and the value
abbrev pub Rest : Type 0
Rest = Held → List Datum → Datum → Action Whole

-- nothing follows
abbrev pub ended : Rest
ended h made d = pure (d, h)

-- an element was added, and the frame below doesn't read the value
abbrev pub added : Rest → Held → List Datum → Action Whole
added k h made = k h made undef

-- ---- names that are set in the last frames, in terms of what is held between
module _ (below : Below) where
  -- names from left to right, and then what follows
  unfoldable pub binds : Arguments → (Held → Action Whole) → Held → Action Whole
  binds no_arguments k h = k h
  binds (argument None e more) k h = binds more k h
  binds (argument (Some name) e more) k h = below.value (env_in h) (along_in h) e
      >>= λ d. binds more k (set_in_last name d h)

  -- parameters that take their defaults, and then what follows
  unfoldable pub fills : List Parameter → (Held → Action Whole) → Held → Action Whole
  fills [] k h = k h
  fills (p ∷ more) k h = default_value below (env_in h) (along_in h) p.default
      >>= λ d. fills more k (set_in_last p.name d h)

  -- the names of the next turn of a loop with start, test and step, and then that turn
  unfoldable pub renewed : Arguments → (Held → List Datum → Action Whole) → List Datum → Held → Action Whole
  renewed steps again made h = binds steps (λ h2. again h2 made) h

  -- a turn of such a loop whose test has its value
  unfoldable pub turned : Place → Arguments → Element → (Held → List Datum → Action Whole)
      → (Held → List Datum → Action Whole) → Held → List Datum → Datum → Action Whole
  turned at steps body again k h made d =
      if truth d then (step at >>= λ _. below.element (env_in h) (along_in h) body made
      >>= λ now. renewed steps again now h)
      else k h made

  -- so many turns of it at most
  unfoldable pub repeats : ℕ → Place → Expression → Arguments → Element
      → (Held → List Datum → Action Whole) → Held → List Datum → Action Whole
  repeats zero at test steps body k h made = over Steps at
  repeats (suc n) at test steps body k h made =
      below.value (env_in h) (along_in h) test >>= turned at steps body (repeats n at test steps body k) k h made

-- ---- arguments
-- those behind the first n
unfoldable pub behind : ℕ → Arguments → Arguments
behind zero args = args
behind (suc n) no_arguments = no_arguments
behind (suc n) (argument word e more) = behind n more

-- the first one takes a value, where it has a name
unfoldable pub set_first : Arguments → Datum → Held → Held
set_first no_arguments d h = h
set_first (argument None e more) d h = h
set_first (argument (Some name) e more) d h = set_in_last name d h

-- what the values of arguments are for
unfoldable pub purposed : Purpose → Expression
purposed (Call c) = call_at c.at c.word.now (arguments c.args.now)
purposed (Assert at args body) = assert_in at (arguments args.now) (expression_of body.now)
purposed (Echo at args body) = echo_in at (arguments args.now) (expression_of body.now)

-- those of a call, an `assert` or an `echo`; another expression has none
unfoldable pub args_of : Expression → Arguments
args_of (call_at at word args) = args
args_of (assert_in at args e) = args
args_of (echo_in at args e) = args
args_of _ = no_arguments

-- what is done with their values; those of another expression are never asked for
unfoldable pub served : Below → Expression → Env → Env → List Datum → Action Datum
served below (call_at at word args) env along found =
    called below at word (function_named word env) along args found
served below (assert_in at args e) env along found = asserted at args found >> below.value env along e
served below (echo_in at args e) env along found = say at (echo_line args found) >> below.value env along e
served below _ env along found = λ s. refuses Memory s

-- the values of the arguments behind those so far, and what is done with them
unfoldable pub supplied : Below → Expression → Env → Env → List Datum → Action Datum
supplied below e env along so_far =
    values below env along (behind (length so_far) (args_of e)) so_far >>= served below e env along

-- a call as it is written, once its arguments have their values
abbrev pub called_as : Written → ℕ → Held → List Datum → Action Datum
called_as c depth h found =
    called (meaning depth) c.at c.word.now (function_named c.word.now (env_in h)) (along_in h) (arguments c.args.now)
    found

abbrev pub written_node : Written → ℕ → Held → Action Datum
written_node c depth h = node (meaning depth) (env_in h) (along_in h) (call_at c.at c.word.now (arguments c.args.now))

-- the expression of a function, once its parameters are set
unfoldable pub entered : Opening → Rest → List Datum → Held → Action Whole
entered o k made h =
    value o.depth (env_in (record h { here = o.inner })) (along_in (record h { here = o.inner }))
    (expression_of o.body.now)
    >>= k (left o.back (record h { here = o.inner })) made

-- the parameters that are left
abbrev pub to_fill : Opening → List Parameter
to_fill o = map (λ p. parameter p.now) (drop o.next o.missing.items)

-- the parameters that are left, and then the function's expression
abbrev pub filling : Opening → Rest → List Datum → Held → Action Whole
filling o k made h = fills (meaning o.depth) (to_fill o) (entered o k made) h

-- a loop with start, test and step, whose frames are left in the end
abbrev pub looped : Loop → ℕ → ℕ → ℕ → Rest → Held → List Datum → Action Whole
looped l turns back depth k =
    repeats (meaning depth) turns l.at (expression_of l.test.now) (arguments l.steps.now) (element_of l.body.now)
    (λ h made. added k (left back h) made)

-- what stands inside names that are bound
unfoldable pub inside_of : Inside → ℕ → ℕ → Rest → List Datum → Held → Action Whole
inside_of (InsideValue e) back depth k made h =
    value depth (env_in h) (along_in h) (expression_of e.now) >>= k (left back h) made
inside_of (InsideElement e) back depth k made h =
    (meaning depth).element (env_in h) (along_in h) (element_of e.now) made >>= added k (left back h)
inside_of (InsideTurns l) back depth k made h = looped l.value l.value.turns back depth k h made

abbrev pub inside : Within → Rest → List Datum → Held → Action Whole
inside w = inside_of w.inside w.back w.depth

-- names that are bound, and what stands inside
abbrev pub binding : Within → Arguments → Rest → List Datum → Held → Action Whole
binding w args k made h = binds (meaning w.depth) args (inside w k made) h

-- the next turn of a loop
abbrev pub looping : Loop → ℕ → ℕ → Rest → List Datum → Held → Action Whole
looping l back depth k made h = looped l l.turns back depth k h made

-- a turn of a loop whose test has its value
abbrev pub turning : Loop → ℕ → ℕ → Rest → Held → List Datum → Datum → Action Whole
turning l back depth k h made d =
    turned (meaning depth) l.at (arguments l.steps.now) (element_of l.body.now) (looped l l.turns back depth k)
    (λ h2 now. added k (left back h2) now) h made d

-- the names of the next turn, and that turn
abbrev pub renewing : Loop → ℕ → ℕ → Rest → List Datum → Held → Action Whole
renewing l back depth k made h = renewed (meaning depth) (arguments l.steps.now) (looped l l.turns back depth k) made h

-- a `for` with start, test and step
abbrev pub loop_of : Loop → ℕ → Arguments → Held → List Datum → Action (List Datum)
loop_of l depth starts h so_far =
    step l.at >>= λ _. judge_named l.at (codes "for") starts
    >>= λ _. judge_named l.at (codes "for") (arguments l.steps.now)
    >>= λ _. bound_in_order (meaning depth) (env_in h) (along_in h) starts empty
    >>= λ b. loop_turns (meaning depth) l.turns l.at (expression_of l.test.now) (arguments l.steps.now)
    (element_of l.body.now)
    (env_in h) (along_in h) b so_far

-- the turns of a variable over some values
abbrev pub turns_of : Variable → Held → List Datum → List Datum → Action (List Datum)
turns_of v h all made =
    turns (meaning v.depth) v.at v.name.now (for_variables (meaning v.depth) v.at (arguments v.more.now)
    (element_of v.body.now))
    (env_in h) (along_in h) all made

-- ---- frames
-- an expression that goes on with another part, once one has its value
unfoldable pub goes_further : Further → Below → Env → Env → Datum → Action Datum
goes_further (RangeEnd e) below env along d = range_end below env along d (expression_of e.now)
goes_further (StepAndEnd at e end) below env along d =
    step_and_end below env along at d (expression_of e.now) (expression_of end.now)
goes_further (SteppedEnd at bounds end) below env along d =
    stepped_end below env along at (datum_of bounds.value.start) d (expression_of end.now)
goes_further (RightSide r) below env along d = right_side below env along r.at r.op d (expression_of r.b.now)
goes_further (Sides a b) below env along d = side below env along d (expression_of a.now) (expression_of b.now)
goes_further (IndexOf i) below env along d = index_of below env along d (expression_of i.now)

-- elements of a vector, and then what follows them
unfoldable pub gathers : Gathering → Rest → Rest
gathers (Vector at outer) k h made d = make at (vector (as_elements made)) >>= k h (parts_in outer)
gathers (Elements more depth) k h made d =
    elements_given (meaning depth) (env_in h) (along_in h) (elements more.now) made >>= added k h
gathers Item k h made d = added k h (made ++ d ∷ [])
gathers (Each outer) k h made d = added k h (parts_in outer ++ flat_map items made)
gathers (If e other depth) k h made d =
    chosen_element (meaning depth) (env_in h) (along_in h) d (element_of e.now)
    (option_map (λ (b : Bor Elem). element_of b.now) other) made
    >>= added k h

-- a `for`, and then what follows it
unfoldable pub goes_round : Round → Rest → Rest
goes_round (Over t) k h made d = turns_of t.value.variable h (items d) made >>= added k h
goes_round (Turns t) k h made d = turns_of t.value.variable (left t.value.back h) (left_in t.value.left) made
    >>= added k (left t.value.back h)
goes_round (Test l back depth) k h made d = turning l.value back depth k h made d
goes_round (Body l back depth) k h made d = renewing l.value back depth k made h

-- a frame, and then what follows it
unfoldable pub onto : Frame → Rest → Rest
onto (Operand at o a) k h made d = operated at (op o (datum_of a) d) >>= k h made
onto (OperationFrame o) k h made d = operates o h d >>= k h made
onto (FurtherFrame f depth) k h made d = goes_further f (meaning depth) (env_in h) (along_in h) d >>= k h made
onto (ArgumentsFrame e so_far depth) k h made d =
    supplied (meaning depth) (expression_of e.now) (env_in h) (along_in h) (data_in so_far ++ d ∷ []) >>= k h made
onto (Default name o) k h made d = filling o.value k made (set_in_last name.now d h)
onto (Leave back) k h made d = k (left back h) made d
onto (Bind args w) k h made d =
    binding w (behind 1 (arguments args.now)) k made (set_first (arguments args.now) d h)
onto (GatheringFrame g) k h made d = gathers g k h made d
onto (RoundFrame r) k h made d = goes_round r k h made d

abbrev pub rest_of : List Frame → Rest → Rest
rest_of [] k = k
rest_of (f ∷ more) k = rest_of more (onto f k)

unfoldable pub rest : Stack → Rest
rest s = rest_of s.frames.items ended

unfoldable pub height : Stack → ℕ
height s = length s.frames.items

unfoldable pub made_in : Stack → List Datum
made_in s = parts_in s.made

-- ---- what is at work, and then what follows it
unfoldable pub goes_on : Focus → Rest → Held → List Datum → State → Outcome Whole
goes_on (Part e depth) k h made s = and_then (value depth (env_in h) (along_in h) (expression_of e.now) s) (k h made)
goes_on (ElementFocus e depth) k h made s =
    and_then ((meaning depth).element (env_in h) (along_in h) (element_of e.now) made s) (added k h)
goes_on (Given v) k h made s = k h made (datum_of v) s

abbrev pub Goes : Outcome Whole → Result Focus EvalFault → Rest → Held → List Datum → State → Type 0
Goes whole (Ok f) k h made s = whole ≡ goes_on f k h made s
Goes whole (Err e) k h made s = e ≢ Memory → whole ≡ refuses e s

-- where so much is left to do, it is what a stack and a machine then have left
abbrev pub Leads : Outcome Whole → Result Focus EvalFault → Stack → Machine → Type 0
Leads whole result stack m = (o : Outcome Whole) → o ≡ whole
    → Goes o result (rest stack) (held m) (made_in stack) (state_of m)

-- the same of what the stack alone goes on with, whatever is held and done so far
abbrev pub LeadsOn : (Held → Action Whole) → Result Focus EvalFault → Stack → Type 0
LeadsOn whole result stack = (h : Held) (s : State) (o : Outcome Whole) → o ≡ whole h s
    → Goes o result (rest stack) h (made_in stack) s

-- what follows a value
abbrev pub followed : Action Datum → Stack → Machine → Outcome Whole
followed a stack m = and_then (a (state_of m)) (rest stack (held m) (made_in stack))

-- what follows an element, which adds to the vector that is being made
abbrev pub followed_list : Action (List Datum) → Stack → Machine → Outcome Whole
followed_list a stack m = and_then (a (state_of m)) (added (rest stack) (held m))

-- where a value is given, it is at work, and then comes what follows it
abbrev pub GoesOn : Result Value EvalFault → Result Focus EvalFault → Type 0
GoesOn v focus = (whole : Outcome Datum) (o : Outcome Whole) (stack : Stack) (h : Held) (m : Machine)
    → o ≡ and_then whole (rest stack h (made_in stack)) → Does datum_of whole v (state_of m) → OnOk v (held m ≡ h)
    → Goes o focus (rest stack) (held m) (made_in stack) (state_of m)

-- an expression that begins once what stands before it is done
abbrev pub BeginsAfter : {A : Type 0} → Result A EvalFault → Expression → ℕ → Result Focus EvalFault → Type 0
BeginsAfter done e depth focus = (whole : Outcome (Unit {0})) (o : Outcome Whole) (k : Rest) (h h2 : Held)
    (made : List Datum) (s : State)
    → o ≡ and_then (and_then whole (λ _. value depth (env_in h) (along_in h) e)) (k h made)
    → Does nothing whole done s → OnOk done (h2 ≡ h) → Goes o focus k h2 made s

-- ---- how much work is left at most
abbrev pub rank : Focus → ℕ
rank (Part e depth) = 0
rank (ElementFocus e depth) = 3
rank (Given v) = 4

abbrev pub size : Focus → Stack → Machine → ℕ
size f stack m = rank f + 2 * height stack + 16 * m.steps_left

abbrev pub Below_by : ℕ → Result Focus EvalFault → Stack → Machine → Stack → Machine → Type 0
Below_by n result stack m stack_new m_new = IfOk result
    (λ f. size f stack_new m_new ≤ 2 * height stack + 16 * m.steps_left + n)

-- the same where no step is taken
abbrev pub Adds_by : ℕ → Result Focus EvalFault → Stack → Stack → Type 0
Adds_by n result stack stack_new = IfOk result (λ f. rank f + 2 * height stack_new ≤ 2 * height stack + n)

-- a value that is given without more frames or steps
abbrev pub Lessens : Result Value EvalFault → Result Focus EvalFault → Type 0
Lessens v focus = (n : ℕ) (stack stack_new : Stack) (m m_new : Machine) → 4 ≤ n → height stack_new ≡ height stack
    → OnOk v (m_new.steps_left ≤ m.steps_left) → Below_by n focus stack m stack_new m_new

-- the same of an expression that begins
abbrev pub BeginsLess : {A : Type 0} → Result A EvalFault → Result Focus EvalFault → Type 0
BeginsLess done focus = (n : ℕ) (stack : Stack) (m m_new : Machine) → OnOk done (m_new.steps_left ≤ m.steps_left)
    → Below_by n focus stack m stack m_new
