-- What follows an expression with another part is what waits for that part.
use Rattle.std.proofs.Common.{sym, ap, ◌∙◌}
use Rattle.scad_ast.specs.View.{expression_of}
use Rattle.scad_value.specs.Index.{indexed}
use Rattle.scad_value.specs.View.{datum_of}
use Rattle.scad_machine.specs.Machine.{held, env_in, along_in, state_of}
use Rattle.scad_machine.specs.State.{Outcome, pure}
use Rattle.scad_operations.specs.Operation.{operates}
use Rattle.scad_operations.specs.Values.{ranged_by_one}
use Rattle.scad_stack.specs.declared.frame.Further.{Further}
use Rattle.scad_stack.specs.Meaning.{meaning, value}
use Rattle.scad_stack.specs.Pieces.{range_end, index_of}
use Rattle.scad_stack.specs.Stack.{Whole, followed, goes_further, onto, rest, made_in}
use Rattle.scad_stack.proofs.Loops.{twice}
use Rattle.scad_stack.proofs.other_part.further.Goals as goal

pub returns-in-RangeEnd-clause-goes : goal.returns-in-RangeEnd-clause-goes
unfolding goes_further range_end onto operates
returns-in-RangeEnd-clause-goes c = λ o is.
    let h = held c.args.m.now in
    let s = state_of c.args.m.now in
    let d = datum_of c.args.v in
    let whole : Further → Outcome Whole = λ (n : Further).
    followed (goes_further n (meaning c.args.depth) (env_in h) (along_in h) d) c.args.stack.now c.args.m.now in
    c.wait.ensures.goes h s o (is ∙ ap whole c.in-RangeEnd.is
    ∙ twice (value c.args.depth (env_in h) (along_in h) (expression_of c.in-RangeEnd.end.now) s)
    (λ b. pure (ranged_by_one d b)) (rest c.args.stack.now h (made_in c.args.stack.now)))

pub returns-in-Right-clause-goes : goal.returns-in-Right-clause-goes
unfolding goes_further
returns-in-Right-clause-goes c = λ o is.
    let h = held c.args.m.now in
    let whole : Further → Outcome Whole = λ (n : Further).
    followed (goes_further n (meaning c.args.depth) (env_in h) (along_in h) (datum_of c.args.v)) c.args.stack.now
    c.args.m.now in
    c.right_side.ensures.goes h (state_of c.args.m.now) o (is ∙ ap whole c.in-Right.is)

pub returns-in-Sides-clause-goes : goal.returns-in-Sides-clause-goes
unfolding goes_further
returns-in-Sides-clause-goes c = λ o is.
    let h = held c.args.m.now in
    let k = rest c.args.stack.now in
    let whole : Further → Outcome Whole = λ (n : Further).
    followed (goes_further n (meaning c.args.depth) (env_in h) (along_in h) (datum_of c.args.v)) c.args.stack.now
    c.args.m.now in
    is ∙ ap whole c.in-Sides.is
    ∙ sym (c.side.ensures.goes k h (made_in c.args.stack.now) (state_of c.args.m.now))

pub returns-clause-goes : goal.returns-clause-goes
unfolding goes_further index_of onto operates
returns-clause-goes c = λ o is.
    let h = held c.args.m.now in
    let s = state_of c.args.m.now in
    let d = datum_of c.args.v in
    let whole : Further → Outcome Whole = λ (n : Further).
    followed (goes_further n (meaning c.args.depth) (env_in h) (along_in h) d) c.args.stack.now c.args.m.now in
    c.wait-in-IndexOf.ensures.goes h s o (is ∙ ap whole c.in-IndexOf.is
    ∙ twice (value c.args.depth (env_in h) (along_in h) (expression_of c.in-IndexOf.i.now) s)
    (λ e. pure (indexed d e)) (rest c.args.stack.now h (made_in c.args.stack.now)))
