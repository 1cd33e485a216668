use Rattle.std.proofs.Common.{◌≡◌, refl, ap, ◌∙◌}
use Rattle.scad_ast.specs.View.{arguments}
use Rattle.scad_value.specs.View.{data_in}
use Rattle.scad_machine.specs.EchoLines.{echo_line}
use Rattle.scad_machine.specs.Machine.{held, env_in, along_in, state_of}
use Rattle.scad_machine.specs.State.{and_then, say}
use Rattle.scad_operations.specs.Values.{asserted}
use Rattle.scad_stack.specs.declared.purpose.Purpose.{Purpose}
use Rattle.scad_stack.specs.declared.purpose.Purpose.TheVariants.{Assert, Echo}
use Rattle.scad_stack.specs.Meaning.{meaning}
use Rattle.scad_stack.specs.Stack.{purposed, served, rest, made_in}
use Rattle.scad_stack.proofs.StackTurns.{on-ok}
use Rattle.scad_stack.proofs.calls.serve.Goals as goal

pub returns-in-Assert-clause-goes : goal.returns-in-Assert-clause-goes
unfolding served purposed
returns-in-Assert-clause-goes c = λ o is.
    let h = held c.args.m.now in
    let s = state_of c.args.m.now in
    let found = data_in c.args.so_far in
    let k = rest c.args.stack.now h (made_in c.args.stack.now) in
    let same : c.args.purpose ≡ Assert c.in-Assert.at c.in-Assert.args c.in-Assert.body = cc in
    c.begin.ensures.goes (asserted c.in-Assert.at (arguments c.in-Assert.args.now) found s) o (rest c.args.stack.now)
    h h (made_in c.args.stack.now) s
    (is ∙ ap (λ (p : Purpose). and_then (served (meaning c.args.depth) (purposed p) (env_in h) (along_in h) found s) k)
    same)
    (c.assert_all.ensures s) (on-ok c.assert_all.result refl)

pub returns-in-Echo-clause-goes : goal.returns-in-Echo-clause-goes
unfolding served purposed
returns-in-Echo-clause-goes c = λ o is.
    let h = held c.args.m.now in
    let s = state_of c.args.m.now in
    let found = data_in c.args.so_far in
    let k = rest c.args.stack.now h (made_in c.args.stack.now) in
    let same : c.args.purpose ≡ Echo c.in-Echo.at c.in-Echo.args c.in-Echo.body = cc in
    c.begin-in-Echo.ensures.goes (say c.in-Echo.at (echo_line (arguments c.in-Echo.args.now) found) s) o
    (rest c.args.stack.now) h (held c.echo_all.new.m) (made_in c.args.stack.now) (state_of c.echo_all.new.m)
    (is ∙ ap (λ (p : Purpose). and_then (served (meaning c.args.depth) (purposed p) (env_in h) (along_in h) found s) k)
    same)
    c.echo_all.ensures.does (on-ok c.echo_all.result c.echo_all.ensures.kept)
