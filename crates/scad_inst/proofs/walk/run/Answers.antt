-- A statement by what it holds.
use Rattle.std.proofs.Common.{ap, sym, ◌∙◌}
use Rattle.scad_ast.specs.Tree.{Item}
use Rattle.scad_expr.specs.Machine.{held, env_in, along_in, state_of}
use Rattle.scad_members.specs.Frames.{below_of}
use Rattle.scad_members.specs.Meaning.{node}
use Rattle.scad_members.specs.Stack.{onward}
use Rattle.scad_inst.proofs.Bodies.{call_statement, choice_statement}
use Rattle.scad_inst.proofs.walk.run.Goals as goal

pub returns-in-Call : goal.returns-in-Call
returns-in-Call c = λ o is.
    c.call.ensures c.args.stmt.now.percent c.args.stmt.now.hash o
    (is ∙ ap (λ (x : Item). onward (node (below_of (held c.args.m.now)) c.args.stack.now.stands
    (env_in (held c.args.m.now)) (along_in (held c.args.m.now)) x (state_of c.args.m.now)) c.args.stack.now
    c.args.m.now)
    (sym (call_statement c.args.stmt.now c.in-Call.name c.as_slice-name.result.now c.in-Call.args c.in-Call.all
    c.in-Call.is c.as_slice-name.ensures)))

pub returns-in-If : goal.returns-in-If
returns-in-If c = λ o is.
    c.choose.ensures c.args.stmt.now.percent c.args.stmt.now.hash o
    (is ∙ ap (λ (x : Item). onward (node (below_of (held c.args.m.now)) c.args.stack.now.stands
    (env_in (held c.args.m.now)) (along_in (held c.args.m.now)) x (state_of c.args.m.now)) c.args.stack.now
    c.args.m.now)
    (sym (choice_statement c.args.stmt.now c.in-If.test c.in-If.held c.in-If.other c.in-If.is)))
