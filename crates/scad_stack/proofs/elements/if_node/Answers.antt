use Rattle.std.proofs.Common.{◌∙◌}
use Rattle.scad_ast.specs.View.{expression_of}
use Rattle.scad_machine.specs.Machine.{held, state_of}
use Rattle.scad_stack.specs.Stack.{rest, made_in}
use Rattle.scad_stack.proofs.StackBegins.{if-begins}
use Rattle.scad_stack.proofs.elements.if_node.Goals as goal

pub returns-clause-goes : goal.returns-clause-goes
returns-clause-goes c = λ o is.
    c.later.ensures.goes o (is ∙ if-begins c.args.depth c.args.at (expression_of c.args.test.now) c.args.both.e
    c.args.both.other
    (held c.args.m.now) (rest c.args.stack.now) (made_in c.args.stack.now) (state_of c.args.m.now))
