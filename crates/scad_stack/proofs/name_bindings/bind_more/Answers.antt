use Rattle.std.proofs.Common.{sym, ap, ◌∙◌}
use Rattle.scad_ast.specs.Tree.{Arguments}
use Rattle.scad_ast.specs.View.{expression_of, arguments}
use Rattle.scad_machine.specs.Machine.{held, env_in, along_in, state_of}
use Rattle.scad_machine.specs.State.{Outcome, and_then}
use Rattle.scad_stack.specs.Meaning.{meaning}
use Rattle.scad_stack.specs.Stack.{Whole, binds, behind, set_first, rest, made_in, inside, onto}
use Rattle.scad_stack.proofs.StackTurns.{binds-some}
use Rattle.scad_stack.proofs.name_bindings.bind_more.Goals as goal

pub returns-in-Some-clause-goes : goal.returns-in-Some-clause-goes
unfolding onto behind set_first
returns-in-Some-clause-goes c = λ o is.
    let n = c.in-Some.n in
    let w = c.args.within in
    let h = held c.args.m.now in
    let s = state_of c.args.m.now in
    let below = meaning w.depth in
    let k = inside w (rest c.args.stack.now) (made_in c.args.stack.now) in
    let after : Arguments → Outcome Whole = λ (a : Arguments).
    and_then (below.value (env_in h) (along_in h) (expression_of n.value.now) s)
    (λ d. binds below (behind 1 a) k (set_first a d h)) in
    c.wait.ensures.goes h s o (is ∙ binds-some below (arguments c.args.args.now)
    (arguments n.more.now) n.name.now (expression_of n.value.now) k h s c.in-Some.ensures.first
    ∙ ap after (sym c.in-Some.ensures.from))
