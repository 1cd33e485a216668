-- Each kind of node goes on as its rule says: with the value of a part, for which a frame waits, or with what its call
-- gives.
use Rattle.std.proofs.Common.{◌≡◌, ℕ, List, refl, sym, ap, ap₂, ◌∙◌}
use Rattle.scad_ast.specs.declared.expression.Expr.{Expr}
use Rattle.scad_ast.specs.Tree.{Expression, name, unary, binary, choose}
use Rattle.scad_ast.specs.View.{expression_at, expression_of, arguments}
use Rattle.scad_value.specs.Datum.{Datum}
use Rattle.scad_value.specs.Operators.{unary_op}
use Rattle.scad_machine.specs.Machine.{Held, held, env_in, along_in, state_of}
use Rattle.scad_machine.specs.State.{State, Outcome, Action, gives, and_then, make}
use Rattle.scad_stack.specs.Meaning.{node, meaning, value, right_side}
use Rattle.scad_stack.specs.Pieces.{side}
use Rattle.scad_stack.specs.Stack.{Rest, rest, made_in, onto, goes_further}
use Rattle.scad_operations.specs.Operation.{operates}
use Rattle.scad_machine.specs.Variables.{variable}
use Rattle.scad_stack.proofs.Views.{list_node, call_node, let_node, assert_node, echo_node}
use Rattle.scad_stack.proofs.Loops.{twice}
use Rattle.scad_stack.proofs.StackBegins.{node-same}
use Rattle.scad_stack.proofs.StackTurns.{assert-supplied, echo-supplied, on-ok}
use Rattle.scad_expr.proofs.nodes.node.Goals as goal

pub returns-in-List-clause-goes : goal.returns-in-List-clause-goes
returns-in-List-clause-goes c = λ o is.
    c.vector_node.ensures.goes o (is ∙ node-same c.args.depth (held c.args.m.now) (rest c.args.stack.now)
    (made_in c.args.stack.now) (state_of c.args.m.now) _ _
    (list_node c.args.e.now c.in-List.all c.deref.result.now c.in-List.is c.deref.ensures.value))

pub returns-in-Call-clause-goes : goal.returns-in-Call-clause-goes
returns-in-Call-clause-goes c = λ o is.
    c.call_node.ensures.goes o (is ∙ node-same c.args.depth (held c.args.m.now) (rest c.args.stack.now)
    (made_in c.args.stack.now) (state_of c.args.m.now) _ _
    (call_node c.args.e.now c.in-Call.word c.in-Call.args c.as_slice-in-Call.result.now c.deref-in-Call.result.now
    c.in-Call.is c.as_slice-in-Call.ensures c.deref-in-Call.ensures.value))

pub call_node-requires : goal.call_node-requires
call_node-requires c =
    call_node c.args.e.now c.in-Call.word c.in-Call.args c.as_slice-in-Call.result.now c.deref-in-Call.result.now
    c.in-Call.is c.as_slice-in-Call.ensures c.deref-in-Call.ensures.value

pub returns-in-Let-clause-goes : goal.returns-in-Let-clause-goes
returns-in-Let-clause-goes c = λ o is.
    c.let_node.ensures.goes o (is ∙ node-same c.args.depth (held c.args.m.now) (rest c.args.stack.now)
    (made_in c.args.stack.now) (state_of c.args.m.now) _ _
    (let_node c.args.e.now c.in-Let.args c.in-Let.body c.deref-in-Let.result.now c.deref-in-Let-2.result.now
    c.in-Let.is c.deref-in-Let.ensures.value c.deref-in-Let-2.ensures))

pub returns-in-Assert-clause-goes : goal.returns-in-Assert-clause-goes
returns-in-Assert-clause-goes c = λ o is.
    let e = c.args.e.now in
    let h = held c.args.m.now in
    let args = c.in-Assert.field-0 in
    let body = c.in-Assert.field-1 in
    c.first_argument.ensures.goes o (is
    ∙ ap (λ (r : Outcome Datum). and_then r (rest c.args.stack.now h (made_in c.args.stack.now)))
    (assert-supplied (meaning c.args.depth) (env_in h) (along_in h) e.at (arguments args.items)
    (expression_of body.value) (expression_of e) (state_of c.args.m.now)
    (assert_node e args body args.items body.value c.in-Assert.is refl refl)))

pub returns-in-Echo-clause-goes : goal.returns-in-Echo-clause-goes
returns-in-Echo-clause-goes c = λ o is.
    let e = c.args.e.now in
    let h = held c.args.m.now in
    let args = c.in-Echo.field-0 in
    let body = c.in-Echo.field-1 in
    c.first_argument-in-Echo.ensures.goes o (is
    ∙ ap (λ (r : Outcome Datum). and_then r (rest c.args.stack.now h (made_in c.args.stack.now)))
    (echo-supplied (meaning c.args.depth) (env_in h) (along_in h) e.at (arguments args.items)
    (expression_of body.value) (expression_of e) (state_of c.args.m.now)
    (echo_node e args body args.items body.value c.in-Echo.is refl refl)))

pub returns-in-Name-clause-goes : goal.returns-in-Name-clause-goes
unfolding node
returns-in-Name-clause-goes c = λ o is.
    let e = c.args.e.now in
    let h = held c.args.m.now in
    let s = state_of c.args.m.now in
    let word = c.as_slice.result.now in
    c.at_work-in-Name.ensures.goes (gives (variable word (env_in h) (along_in h)) s) o c.args.stack.now h
    c.args.m.now
    (is ∙ node-same c.args.depth h (rest c.args.stack.now) (made_in c.args.stack.now) s (name e.at word)
    (expression_of e)
    (ap (λ (w : List ℕ). name e.at w) c.as_slice.ensures ∙ ap (expression_at e.at) (sym c.in-Name.is)))
    (c.variable.ensures s) (on-ok c.variable.result refl)

-- ---- a part begins, and a frame waits for its value
waits : (depth : ℕ) (h : Held) (k : Rest) (made : List Datum) (s : State) (x y first : Expression)
    (follows : Datum → Action Datum) → x ≡ y
    → node (meaning depth) (env_in h) (along_in h) x s
    ≡ and_then (value depth (env_in h) (along_in h) first s) follows
    → and_then (node (meaning depth) (env_in h) (along_in h) y s) (k h made)
    ≡ and_then (value depth (env_in h) (along_in h) first s) (λ d t. and_then (follows d t) (k h made))
waits depth h k made s x y first follows same is =
    node-same depth h k made s x y same
    ∙ ap (λ (r : Outcome Datum). and_then r (k h made)) is
    ∙ twice (value depth (env_in h) (along_in h) first s) follows (k h made)

pub returns-in-Unary-clause-goes : goal.returns-in-Unary-clause-goes
unfolding node onto operates
returns-in-Unary-clause-goes c = λ o is.
    let e = c.args.e.now in
    let h = held c.args.m.now in
    let op = c.in-Unary.op in
    let a = c.deref-in-Unary.result.now in
    c.wait-in-Unary.ensures.goes h (state_of c.args.m.now) o (is ∙ waits c.args.depth h (rest c.args.stack.now)
    (made_in c.args.stack.now) (state_of c.args.m.now)
    (unary e.at op (expression_of a)) (expression_of e) (expression_of a)
    (λ d. make e.at (unary_op op d))
    (ap (λ (x : Expr). unary e.at op (expression_of x)) c.deref-in-Unary.ensures
    ∙ ap (expression_at e.at) (sym c.in-Unary.is)) refl)

pub returns-in-Binary-clause-goes : goal.returns-in-Binary-clause-goes
unfolding node onto goes_further
returns-in-Binary-clause-goes c = λ o is.
    let e = c.args.e.now in
    let h = held c.args.m.now in
    let env = env_in h in
    let along = along_in h in
    let op = c.in-Binary.op in
    let b = c.deref-in-Binary.result.now in
    let a = c.deref-in-Binary-2.result.now in
    c.wait-in-Binary.ensures.goes h (state_of c.args.m.now) o (is ∙ waits c.args.depth h (rest c.args.stack.now)
    (made_in c.args.stack.now) (state_of c.args.m.now)
    (binary e.at op (expression_of a) (expression_of b)) (expression_of e) (expression_of a)
    (λ d. right_side (meaning c.args.depth) env along e.at op d (expression_of b))
    (ap₂ (λ (x y : Expr). binary e.at op (expression_of x) (expression_of y)) c.deref-in-Binary-2.ensures
    c.deref-in-Binary.ensures ∙ ap (expression_at e.at) (sym c.in-Binary.is)) refl)

pub returns-in-Choose-clause-goes : goal.returns-in-Choose-clause-goes
unfolding node onto goes_further side
returns-in-Choose-clause-goes c = λ o is.
    let e = c.args.e.now in
    let h = held c.args.m.now in
    let env = env_in h in
    let along = along_in h in
    let a = c.deref-in-Choose.result.now in
    let b = c.deref-in-Choose-2.result.now in
    let test = c.deref-in-Choose-3.result.now in
    c.wait-in-Choose.ensures.goes h (state_of c.args.m.now) o (is ∙ waits c.args.depth h (rest c.args.stack.now)
    (made_in c.args.stack.now) (state_of c.args.m.now)
    (choose e.at (expression_of test) (expression_of a) (expression_of b)) (expression_of e) (expression_of test)
    (λ d. side (meaning c.args.depth) env along d (expression_of a) (expression_of b))
    (ap₂ (λ (x y : Expr). choose e.at (expression_of x) (expression_of y) (expression_of b))
    c.deref-in-Choose-3.ensures c.deref-in-Choose.ensures
    ∙ ap (λ (x : Expr). choose e.at (expression_of c.in-Choose.test.value) (expression_of c.in-Choose.a.value)
    (expression_of x)) c.deref-in-Choose-2.ensures ∙ ap (expression_at e.at) (sym c.in-Choose.is)) refl)
