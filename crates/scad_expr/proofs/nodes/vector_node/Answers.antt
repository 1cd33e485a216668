use Rattle.std.proofs.Common.{ap, ◌∙◌}
use Rattle.scad_ast.specs.View.{elements}
use Rattle.scad_stack.specs.declared.frame.Frame.TheVariants.{Gathering as GatheringFrame}
use Rattle.scad_stack.specs.declared.frame.Gathering.TheVariants.{Vector}
use Rattle.scad_machine.specs.Machine.{held, state_of}
use Rattle.scad_stack.specs.Meaning.{meaning}
use Rattle.scad_stack.specs.Stack.{rest, made_in, onto}
use Rattle.scad_stack.proofs.StackBegins.{vector-begins}
use Rattle.scad_expr.proofs.nodes.vector_node.Goals as goal

pub returns-clause-goes : goal.returns-clause-goes
returns-clause-goes c = λ o is.
    c.more_elements.ensures.goes o (is ∙ vector-begins (meaning c.args.depth) c.args.at (elements c.args.all.now)
    (rest c.args.stack.now) (rest c.push.new.self) (held c.args.m.now) (made_in c.args.stack.now)
    (made_in c.push.new.self) c.set_aside-outer.result (state_of c.args.m.now) c.set_aside-outer.ensures.before
    (c.in_ok-push.ensures.made ∙ c.set_aside-outer.ensures.made)
    (c.in_ok-push.ensures.rest ∙ ap (onto (GatheringFrame (Vector c.args.at c.set_aside-outer.result))) c.set_aside-outer.ensures.rest))
