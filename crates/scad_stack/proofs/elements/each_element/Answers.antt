use Rattle.std.proofs.Common.{ap, ◌∙◌}
use Rattle.scad_ast.specs.View.{element_of}
use Rattle.scad_stack.specs.declared.frame.Frame.TheVariants.{Gathering as GatheringFrame}
use Rattle.scad_stack.specs.declared.frame.Gathering.TheVariants.{Each}
use Rattle.scad_machine.specs.Machine.{held, state_of}
use Rattle.scad_stack.specs.Meaning.{meaning}
use Rattle.scad_stack.specs.Stack.{rest, made_in, onto, goes_on}
use Rattle.scad_stack.proofs.StackBegins.{each-node-begins}
use Rattle.scad_stack.proofs.elements.each_element.Goals as goal

pub returns-clause-goes : goal.returns-clause-goes
unfolding goes_on meaning
returns-clause-goes c = λ o is.
    is ∙ each-node-begins (meaning c.args.depth) c.args.at (element_of c.args.e.now) (rest c.args.stack.now)
    (rest c.push.new.self) (held c.args.m.now) (held c.step.new.self) (made_in c.args.stack.now)
    (made_in c.push.new.self) c.set_aside-outer.result (state_of c.args.m.now) (state_of c.step.new.self)
    c.in_ok-step.ensures.does c.in_ok-step.ensures.kept c.set_aside-outer.ensures.before
    (c.in_ok-push.ensures.made ∙ c.set_aside-outer.ensures.made)
    (c.in_ok-push.ensures.rest ∙ ap (onto (GatheringFrame (Each c.set_aside-outer.result))) c.set_aside-outer.ensures.rest)
