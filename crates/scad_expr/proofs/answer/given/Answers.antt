-- A frame goes on as the call in its arm says.
use Rattle.std.proofs.Common.{◌≡◌, ◌≤◌, ℕ, Result, Ok, Err, refl, ap, ◌∙◌, arith}
use Rattle.scad_value.specs.Datum.{Datum}
use Rattle.scad_value.specs.Operators.{op}
use Rattle.scad_value.specs.View.{datum_of}
use Rattle.scad_machine.specs.declared.fault.EvalFault.{EvalFault}
use Rattle.scad_machine.specs.declared.machine.Machine.{Machine}
use Rattle.scad_machine.specs.Machine.{held, state_of}
use Rattle.scad_operations.specs.Operation.{operates}
use Rattle.scad_operations.specs.Values.{operated}
use Rattle.scad_stack.specs.declared.frame.Focus.{Focus}
use Rattle.scad_stack.specs.declared.frame.Frame.{Frame}
use Rattle.scad_stack.specs.declared.stack.Stack.{Stack}
use Rattle.scad_stack.specs.Stack.{Below_by, onto, rest, made_in}
use Rattle.scad_stack.proofs.StackTurns.{on-ok}
use Rattle.scad_expr.proofs.answer.given.Goals as goal

-- what follows a frame, by its kind
by_kind : (f g : Frame) (v : Datum) (stack : Stack) (m : Machine) → f ≡ g
    → onto f (rest stack) (held m) (made_in stack) v (state_of m)
    ≡ onto g (rest stack) (held m) (made_in stack) v (state_of m)
by_kind f g v stack m is = ap (λ (x : Frame). onto x (rest stack) (held m) (made_in stack) v (state_of m)) is

less_than_five : (r : Result Focus EvalFault) (n : ℕ) (stack stack2 : Stack) (m m2 : Machine) → n ≤ 5
    → Below_by n r stack m stack2 m2 → Below_by 5 r stack m stack2 m2
less_than_five (Ok f) n stack stack2 m m2 few below = omega (arith, few, below)
less_than_five (Err e) n stack stack2 m m2 few below = tt

pub returns-in-Operand-clause-goes : goal.returns-in-Operand-clause-goes
unfolding onto
returns-in-Operand-clause-goes c = λ o is.
    let a = c.in-Operand in
    c.at_work.ensures.goes (operated a.at (op a.op (datum_of a.a) (datum_of c.args.v)) (state_of c.args.m.now)) o
    c.args.stack.now (held c.args.m.now) c.binary_at.new.m
    (is ∙ by_kind c.args.frame _ (datum_of c.args.v) c.args.stack.now c.args.m.now a.is)
    c.binary_at.ensures.does (on-ok c.binary_at.result c.binary_at.ensures.kept)

pub returns-in-Operand-clause-less : goal.returns-in-Operand-clause-less
returns-in-Operand-clause-less c =
    c.at_work.ensures.less 5 c.args.stack.now c.args.stack.now c.args.m.now c.binary_at.new.m (omega arith) refl
    c.binary_at.ensures.less

pub returns-in-Operation-clause-goes : goal.returns-in-Operation-clause-goes
unfolding onto
returns-in-Operation-clause-goes c = λ o is.
    let a = c.in-Operation in
    c.at_work-in-Operation.ensures.goes (operates a.last (held c.args.m.now) (datum_of c.args.v)
    (state_of c.args.m.now)) o c.args.stack.now (held c.args.m.now) c.operate.new.m
    (is ∙ by_kind c.args.frame _ (datum_of c.args.v) c.args.stack.now c.args.m.now a.is)
    c.operate.ensures.does (on-ok c.operate.result c.operate.ensures.kept)

pub returns-in-Operation-clause-less : goal.returns-in-Operation-clause-less
returns-in-Operation-clause-less c =
    c.at_work-in-Operation.ensures.less 5 c.args.stack.now c.args.stack.now c.args.m.now c.operate.new.m
    (omega arith) refl c.operate.ensures.less

pub returns-in-Further-clause-goes : goal.returns-in-Further-clause-goes
unfolding onto
returns-in-Further-clause-goes c = λ o is. c.further.ensures.goes o
    (is ∙ by_kind c.args.frame _ (datum_of c.args.v) c.args.stack.now c.args.m.now c.in-Further.is)

pub returns-in-Further-clause-less : goal.returns-in-Further-clause-less
returns-in-Further-clause-less c = less_than_five c.further.result 4 c.args.stack.now c.further.new.stack c.args.m.now
    c.further.new.m (omega arith) c.further.ensures.less

pub returns-in-Arguments-clause-goes : goal.returns-in-Arguments-clause-goes
unfolding onto
returns-in-Arguments-clause-goes c = λ o is. c.next_argument.ensures.goes o
    (is ∙ by_kind c.args.frame _ (datum_of c.args.v) c.args.stack.now c.args.m.now c.in-Arguments.is)

pub returns-in-Default-clause-goes : goal.returns-in-Default-clause-goes
unfolding onto
returns-in-Default-clause-goes c = λ o is. c.next_parameter.ensures.goes o
    (is ∙ by_kind c.args.frame _ (datum_of c.args.v) c.args.stack.now c.args.m.now c.in-Default.is)

pub returns-in-Default-clause-less : goal.returns-in-Default-clause-less
returns-in-Default-clause-less c =
    less_than_five c.next_parameter.result 2 c.args.stack.now c.next_parameter.new.stack c.args.m.now
    c.next_parameter.new.m (omega arith) c.next_parameter.ensures.less

pub returns-in-Leave-clause-goes : goal.returns-in-Leave-clause-goes
unfolding onto
returns-in-Leave-clause-goes c = λ o is. c.leave.ensures.goes o
    (is ∙ by_kind c.args.frame _ (datum_of c.args.v) c.args.stack.now c.args.m.now c.in-Leave.is)

pub returns-in-Leave-clause-less : goal.returns-in-Leave-clause-less
returns-in-Leave-clause-less c = less_than_five c.leave.result 4 c.args.stack.now c.leave.new.stack c.args.m.now
    c.leave.new.m (omega arith) c.leave.ensures.less

pub returns-in-Bind-clause-goes : goal.returns-in-Bind-clause-goes
unfolding onto
returns-in-Bind-clause-goes c = λ o is. c.bind_next.ensures.goes o
    (is ∙ by_kind c.args.frame _ (datum_of c.args.v) c.args.stack.now c.args.m.now c.in-Bind.is)

pub returns-in-Bind-clause-less : goal.returns-in-Bind-clause-less
returns-in-Bind-clause-less c = c.bind_next.ensures.less

pub returns-in-Gathering-clause-goes : goal.returns-in-Gathering-clause-goes
unfolding onto
returns-in-Gathering-clause-goes c = λ o is. c.gathered.ensures.goes o
    (is ∙ by_kind c.args.frame _ (datum_of c.args.v) c.args.stack.now c.args.m.now c.in-Gathering.is)

pub returns-in-Gathering-clause-less : goal.returns-in-Gathering-clause-less
returns-in-Gathering-clause-less c = c.gathered.ensures.less

pub returns-in-Arguments-clause-less : goal.returns-in-Arguments-clause-less
returns-in-Arguments-clause-less c = less_than_five c.next_argument.result 4 c.args.stack.now
    c.next_argument.new.stack c.args.m.now c.next_argument.new.m (omega arith) c.next_argument.ensures.less
