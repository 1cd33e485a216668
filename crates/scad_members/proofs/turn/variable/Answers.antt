-- What the variable of an argument with a name runs over, or why it has no value; an argument without one.
use Rattle.std.proofs.Common.{◌+◌, ◌∙◌, drop}
use Rattle.std.proofs.lemmas.Result.{err_from_is_err_and}
use Rattle.scad_ast.specs.View.{arguments, expression_of}
use Rattle.scad_value.specs.View.{datum_of}
use Rattle.scad_expr.specs.Machine.{held, state_of}
use Rattle.scad_members.specs.declared.variable.Variable.{Variable}
use Rattle.scad_members.specs.Stack.{rest, made_in}
use Rattle.scad_members.proofs.Onward.{variable-named, variable-passes, variable-runs, variable-stops}
use Rattle.scad_members.proofs.turn.variable.Goals as goal

pub returns-in_ok-left-in-Some : goal.returns-in_ok-left-in-Some
returns-in_ok-left-in-Some c = λ o is.
    let named : Variable = record { call = c.args.call; name = c.as_slice-name.result; next = c.args.at + 1 } in
    is ∙ variable-named c.args.call c.args.stack.now.stands (rest c.args.stack.now) (made_in c.args.stack.now)
    (state_of c.args.m.now) c.args.first.now.name c.as_slice-name.result.now c.in-Some.name
    (expression_of c.args.first.now.value) (arguments (drop (c.args.at + 1) c.args.call.args.now.items))
    (held c.args.m.now) c.in-Some.is c.as_slice-name.ensures
    ∙ variable-runs named c.args.stack.now.stands (rest c.args.stack.now) (made_in c.args.stack.now)
    (state_of c.args.m.now) (expression_of c.args.first.now.value) (held c.args.m.now) c.in_ok-left-in-Some.left
    (held c.eval.new.machine) (datum_of c.in_ok-over-in-Some.over) (state_of c.eval.new.machine)
    c.in_ok-over-in-Some.ensures.does
    c.in_ok-over-in-Some.ensures.kept c.in_ok-left-in-Some.ensures

pub returns-in_err-over-in-Some : goal.returns-in_err-over-in-Some
returns-in_err-over-in-Some c =
    let named : Variable = record { call = c.args.call; name = c.as_slice-name.result; next = c.args.at + 1 } in
    let p = err_from_is_err_and c.from_residual.result c.from_residual.ensures.1 in
    λ o is. rw (p.1, p.2) (λ some. is ∙ variable-named c.args.call c.args.stack.now.stands (rest c.args.stack.now)
    (made_in c.args.stack.now) (state_of c.args.m.now) c.args.first.now.name c.as_slice-name.result.now c.in-Some.name
    (expression_of c.args.first.now.value) (arguments (drop (c.args.at + 1) c.args.call.args.now.items))
    (held c.args.m.now) c.in-Some.is c.as_slice-name.ensures
    ∙ variable-stops named c.args.stack.now.stands (rest c.args.stack.now)
    (made_in c.args.stack.now) (state_of c.args.m.now) (expression_of c.args.first.now.value) (held c.args.m.now) _
    (state_of c.eval.new.machine) (c.in_err-over-in-Some.ensures.does some))

pub returns-in-None : goal.returns-in-None
returns-in-None c = λ o is.
    is ∙ variable-passes c.args.call c.args.stack.now.stands (rest c.args.stack.now) (made_in c.args.stack.now)
    (state_of c.args.m.now) c.args.first.now.name (expression_of c.args.first.now.value) (c.args.at + 1)
    (held c.args.m.now) c.in-None.is
