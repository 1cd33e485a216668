-- What begins without the machine goes on.
use Rattle.std.proofs.Common.{ap}
use Rattle.scad_expr.specs.Machine.{held, state_of}
use Rattle.scad_members.specs.declared.work.Focus.{Focus}
use Rattle.scad_members.specs.Stack.{rest, made_in, goes_on}
use Rattle.scad_members.proofs.Onward.{starts-goes}
use Rattle.scad_inst.proofs.run.turn.Goals as goal

pub returns-in-Members : goal.returns-in-Members
unfolding goes_on
returns-in-Members c =
    let h = held c.args.m.now in
    let s = state_of c.args.m.now in
    c.more-in-Members.ensures (goes_on c.args.focus (rest c.args.stack.now) c.args.stack.now.stands h
    (made_in c.args.stack.now) s)
    c.members.new.stack c.args.m.now
    (starts-goes (goes_on c.args.focus (rest c.args.stack.now) c.args.stack.now.stands h (made_in c.args.stack.now) s) _
    c.members.result
    c.members.new.stack c.args.m.now
    (ap (λ (f : Focus). goes_on f (rest c.args.stack.now) c.args.stack.now.stands h (made_in c.args.stack.now) s)
    c.in-Members.is)
    (c.members.ensures.goes h s) c.members.ensures.memory)

pub returns-in-Children : goal.returns-in-Children
unfolding goes_on
returns-in-Children c =
    let h = held c.args.m.now in
    let s = state_of c.args.m.now in
    c.more-in-Children.ensures (goes_on c.args.focus (rest c.args.stack.now) c.args.stack.now.stands h
    (made_in c.args.stack.now) s)
    c.children_by.new.stack c.args.m.now
    (starts-goes (goes_on c.args.focus (rest c.args.stack.now) c.args.stack.now.stands h (made_in c.args.stack.now) s) _
    c.children_by.result
    c.children_by.new.stack c.args.m.now
    (ap (λ (f : Focus). goes_on f (rest c.args.stack.now) c.args.stack.now.stands h (made_in c.args.stack.now) s)
    c.in-Children.is)
    (c.children_by.ensures.goes h s) c.children_by.ensures.memory)
