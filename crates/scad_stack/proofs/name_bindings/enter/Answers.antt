-- What stands inside names that are bound begins as it is written, and the frames of the names are left behind it.
use Rattle.std.proofs.Common.{ap, ◌∙◌}
use Rattle.scad_machine.specs.State.{Outcome}
use Rattle.scad_stack.specs.declared.frame.Inside.{Inside}
use Rattle.scad_stack.specs.Stack.{Whole, inside_of, onto, rest, made_in}
use Rattle.scad_stack.proofs.name_bindings.enter.Goals as goal

pub returns-in-Value-clause-goes : goal.returns-in-Value-clause-goes
unfolding inside_of onto
returns-in-Value-clause-goes c = λ h s o is.
    let w = c.args.within in
    let whole : Inside → Outcome Whole = λ (i : Inside).
    inside_of i w.back w.depth (rest c.args.stack.now) (made_in c.args.stack.now) h s in
    c.wait.ensures.goes h s o (is ∙ ap whole c.in-Value.is)

pub returns-in-Turns-clause-goes : goal.returns-in-Turns-clause-goes
unfolding inside_of
returns-in-Turns-clause-goes c = λ h s o is.
    let w = c.args.within in
    let whole : Inside → Outcome Whole = λ (i : Inside).
    inside_of i w.back w.depth (rest c.args.stack.now) (made_in c.args.stack.now) h s in
    c.repeat.ensures.goes h s o (is ∙ ap whole c.in-Turns.is)
