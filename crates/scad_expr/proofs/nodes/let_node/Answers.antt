use Rattle.std.proofs.Common.{sym, ◌∙◌}
use Rattle.scad_ast.specs.View.{arguments}
use Rattle.scad_machine.specs.Machine.{held, state_of}
use Rattle.scad_stack.specs.Stack.{rest, made_in}
use Rattle.scad_stack.proofs.Loops.{same-state}
use Rattle.scad_stack.proofs.StackBegins.{let-node-begins}
use Rattle.scad_expr.proofs.nodes.let_node.Goals as goal

pub returns-clause-goes : goal.returns-clause-goes
returns-clause-goes c = λ o is.
    c.bind_more.ensures.goes o (is ∙ let-node-begins c.args.depth c.in_ok-back.back c.args.at c.args.body
    (arguments c.args.args.now) (rest c.args.stack.now) (held c.open.new.self) (held c.args.m.now)
    (made_in c.args.stack.now) (state_of c.args.m.now) (state_of c.open.new.self)
    (c.in_ok-judge_named.ensures (state_of c.args.m.now)) c.in_ok-back.ensures.inner c.in_ok-back.ensures.bound
    c.in_ok-back.ensures.outer c.in_ok-back.ensures.back (sym (same-state _ _ _ _ c.in_ok-back.ensures.does)))
