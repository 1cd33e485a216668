use Rattle.std.proofs.Common.{sym, ap, ◌∙◌}
use Rattle.scad_ast.specs.View.{expression_of, element_of, arguments}
use Rattle.scad_machine.specs.Machine.{env_in, along_in}
use Rattle.scad_machine.specs.State.{and_then}
use Rattle.scad_stack.specs.declared.frame.Turning.{Turning}
use Rattle.scad_stack.specs.Meaning.{meaning}
use Rattle.scad_operations.specs.Runs.{items}
use Rattle.scad_stack.specs.Stack.{rest, made_in, added, onto, goes_round, turns_of}
use Rattle.scad_stack.proofs.StackTurns.{variables-some}
use Rattle.scad_stack.proofs.turns.variables.Goals as goal

pub returns-in_ok-turning-in-Some-clause-goes : goal.returns-in_ok-turning-in-Some-clause-goes
unfolding onto goes_round
returns-in_ok-turning-in-Some-clause-goes c = λ h s o is.
    let n = c.in-Some.n in
    let k = rest c.args.stack.now in
    c.wait.ensures.goes h s o (is ∙ variables-some (meaning c.args.depth) c.args.at
    (arguments c.args.args.now) (arguments n.more.now) n.name.now (expression_of n.value.now)
    (element_of c.args.body.now) (env_in h) (along_in h) (made_in c.args.stack.now) s
    (added k h) c.in-Some.ensures.first
    ∙ ap (λ (t : Turning). and_then ((meaning c.args.depth).value (env_in h) (along_in h) (expression_of n.value.now) s)
    (λ d u. and_then (turns_of t.variable h (items d) (made_in c.args.stack.now) u) (added k h)))
    (sym c.in_ok-turning-in-Some.ensures.ok))
