-- A member of a variable is read where the variable stands, once its name passed.
use Rattle.std.proofs.Common.{◌≡◌, List, Result, Ok, Err, subst, sym, ap, ◌∙◌}
use Rattle.std.specs.declared.alloc.AllocError.{AllocError}
use Rattle.std.specs.Prelude.{IfOk, IfErr}
use Rattle.scad_ast.specs.Tree.{Expression, name}
use Rattle.scad_ast.specs.View.{expression_at, expression_of}
use Rattle.scad_value.specs.Datum.{Datum}
use Rattle.scad_value.specs.View.{datum_of}
use Rattle.scad_value.specs.declared.value.Value.{Value}
use Rattle.scad_machine.specs.declared.fault.EvalFault.{EvalFault}
use Rattle.scad_machine.specs.declared.fault.EvalFault.TheVariants.{Memory}
use Rattle.scad_machine.specs.Answers.{Does}
use Rattle.scad_machine.specs.Machine.{Held, held, env_in, along_in, state_of}
use Rattle.scad_machine.specs.State.{State, Outcome, gives, pure, and_then}
use Rattle.scad_machine.specs.Variables.{variable}
use Rattle.scad_stack.specs.Meaning.{node, value, member_of}
use Rattle.scad_stack.specs.Stack.{rest, made_in}
use Rattle.scad_stack.proofs.StackTurns.{on-ok}
use Rattle.scad_expr.proofs.nodes.member_node.Goals as goal

read : (r : Result Value EvalFault) (m : Result Value AllocError) (d : Datum) (t : State) → IfOk r (λ v. m ≡ Ok v)
    → IfErr r (λ e. e ≡ Memory) → IfOk m (λ v. datum_of v ≡ d) → Does datum_of (gives d t) r t
read (Ok v) m d t ok err is =
    let got : datum_of v ≡ d = subst (λ x. IfOk x (λ w. datum_of w ≡ d)) ok is in ap (λ x. gives x t) (sym got)
read (Err e) m d t ok err is = λ some. absurd (some err)

pub returns-in_ok-pass_name-in-Name-clause-goes : goal.returns-in_ok-pass_name-in-Name-clause-goes
unfolding node
returns-in_ok-pass_name-in-Name-clause-goes c = λ o is.
    let h = held c.args.m.now in
    let s = state_of c.args.m.now in
    let t = state_of c.pass_name.new.m in
    let a = c.args.a.now in
    let word = c.args.word.now in
    let kept = c.in_ok-pass_name-in-Name.ensures.kept in
    let written : expression_of a ≡ name a.at c.as_slice.result.now =
    ap (expression_at a.at) c.in-Name.is ∙ ap (λ (w : List _). name a.at w) (sym c.as_slice.ensures) in
    let there = variable c.as_slice.result.now (env_in h) (along_in h) in
    let same =
    c.seek.ensures ∙ ap (λ (x : Held). variable c.as_slice-in-Name.result.now (env_in x) (along_in x)) kept
    ∙ ap (λ (w : List _). variable w (env_in h) (along_in h)) (c.as_slice-in-Name.ensures ∙ sym c.as_slice.ensures) in
    let found = subst (λ (x : Datum). IfOk c.member_in.result (λ v. datum_of v ≡ member_of word x)) same
    c.member_in.ensures in
    c.at_work.ensures.goes (gives (member_of word there) t) o c.args.stack.now h c.pass_name.new.m
    (is ∙ ap (λ (x : Expression). and_then (and_then (value c.args.depth (env_in h) (along_in h) x s)
    (λ d. pure (member_of word d))) (rest c.args.stack.now h (made_in c.args.stack.now))) written
    ∙ ap (λ (r : Outcome Datum). and_then (and_then r (λ d. pure (member_of word d)))
    (rest c.args.stack.now h (made_in c.args.stack.now))) c.in_ok-pass_name-in-Name.ensures.does)
    (read c.in_memory.result c.member_in.result (member_of word there) t c.in_memory.ensures.ok c.in_memory.ensures.err
    found)
    (on-ok c.in_memory.result kept)
