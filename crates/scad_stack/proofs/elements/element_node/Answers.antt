use Rattle.std.proofs.Common.{refl, ◌∙◌}
use Rattle.std.specs.Borrow.{Bor}
use Rattle.scad_ast.specs.declared.expression.Expr.{Expr}
use Rattle.scad_ast.specs.View.{arguments}
use Rattle.scad_stack.specs.declared.frame.Loop.{Loop}
use Rattle.scad_machine.specs.Machine.{held, state_of}
use Rattle.scad_stack.specs.Stack.{rest, made_in}
use Rattle.scad_stack.proofs.Views.{for_node, loop_node, let_element_node}
use Rattle.scad_stack.proofs.StackBegins.{element-same, loop-same}
use Rattle.scad_stack.proofs.elements.element_node.Goals as goal

pub returns-in-For-clause-goes : goal.returns-in-For-clause-goes
returns-in-For-clause-goes c = λ o is.
    c.for_element.ensures.goes o (is ∙ element-same c.args.depth (held c.args.m.now) (rest c.args.stack.now)
    (made_in c.args.stack.now) (state_of c.args.m.now) _ _
    (for_node c.args.e.now c.in-For.args c.in-For.e c.in-For.at c.deref-in-For.result.now c.deref-in-For-2.result.now
    c.in-For.is c.deref-in-For.ensures.value c.deref-in-For-2.ensures))

pub returns-in-Let-clause-goes : goal.returns-in-Let-clause-goes
returns-in-Let-clause-goes c = λ o is.
    c.let_element.ensures.goes o (is ∙ element-same c.args.depth (held c.args.m.now) (rest c.args.stack.now)
    (made_in c.args.stack.now) (state_of c.args.m.now) _ _
    (let_element_node c.args.e.now c.in-Let.args c.in-Let.e c.in-Let.at c.deref-in-Let.result.now
    c.deref-in-Let-2.result.now c.in-Let.is c.deref-in-Let.ensures.value c.deref-in-Let-2.ensures))

pub returns-in-Loop-clause-goes : goal.returns-in-Loop-clause-goes
returns-in-Loop-clause-goes c = λ o is.
    let test : Bor Expr = record { ref_ptr = (0, 0); now = c.in-Loop.test } in
    let all : Loop = record {
      at = c.in-Loop.at;
      test = test;
      steps = c.deref-in-Loop.result;
      body = c.deref-in-Loop-2.result;
      turns = 5000001;
    } in
    c.loop_element.ensures.goes o (is ∙ loop-same c.args.depth all (arguments c.deref-in-Loop-3.result.now)
    (held c.args.m.now) (rest c.args.stack.now) (made_in c.args.stack.now) (state_of c.args.m.now) _ refl
    (loop_node c.args.e.now c.in-Loop.starts c.in-Loop.test c.in-Loop.steps c.in-Loop.e c.in-Loop.at
    c.deref-in-Loop-3.result.now c.deref-in-Loop.result.now c.deref-in-Loop-2.result.now c.in-Loop.is
    c.deref-in-Loop-3.ensures.value c.deref-in-Loop.ensures.value c.deref-in-Loop-2.ensures))
