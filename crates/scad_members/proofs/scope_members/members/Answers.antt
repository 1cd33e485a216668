-- The first statement from a number on in a scope, or none is left.
use Rattle.std.proofs.Common.{List, sym, ap, ◌∙◌, arith}
use Rattle.scad_tree.specs.Solid.{Solid}
use Rattle.scad_expr.specs.Machine.{env_in, along_in}
use Rattle.scad_expr.specs.State.{Outcome, and_then}
use Rattle.scad_members.specs.Frames.{below_of}
use Rattle.scad_members.specs.Stack.{rest, made_in, goes_on, listed}
use Rattle.scad_members.proofs.Onward.{members-next, members-end}
use Rattle.scad_members.proofs.scope_members.members.Goals as goal

pub returns-clause-goes : goal.returns-clause-goes
returns-clause-goes c = λ h s.
    c.member.ensures.goes h s _
    (ap (λ (o : Outcome (List Solid)). and_then o (listed (rest c.args.stack.now) c.args.stack.now.stands h))
    (c.next_statement-number.ensures (below_of h) c.args.stack.now.stands (env_in h) (along_in h)
    (made_in c.args.stack.now) s)
    ∙ members-next h c.args.stack.now.stands c.args.scope c.next_statement-number.result (rest c.args.stack.now)
    (made_in c.args.stack.now) s c.index.result.now (omega arith) c.index.ensures)

pub returns-then-number-len-clause-goes : goal.returns-then-number-len-clause-goes
unfolding goes_on
returns-then-number-len-clause-goes c = λ h s.
    ap (λ (o : Outcome (List Solid)). and_then o (listed (rest c.args.stack.now) c.args.stack.now.stands h))
    (c.next_statement-number.ensures (below_of h) c.args.stack.now.stands (env_in h) (along_in h)
    (made_in c.args.stack.now) s)
    ∙ members-end h c.args.stack.now.stands c.args.scope c.next_statement-number.result (rest c.args.stack.now)
    (made_in c.args.stack.now) s (omega arith)
    ∙ ap (λ (t : Solid). rest c.args.stack.now c.args.stack.now.stands h (made_in c.args.stack.now) t s)
    (sym c.empty.ensures)
