-- The children in a turn of all variables.
use Rattle.std.proofs.Common.{arith}
use Rattle.scad_value.proofs.Lists.{arguments-drop_all}
use Rattle.scad_expr.specs.Machine.{held, state_of}
use Rattle.scad_members.specs.Stack.{rest, made_in}
use Rattle.scad_members.proofs.Onward.{variables-end}
use Rattle.scad_members.proofs.turn.variables.Goals as goal

pub returns-then-next-len : goal.returns-then-next-len
returns-then-next-len c =
    c.combined.ensures _ (variables-end c.args.call c.args.stack.now.stands (rest c.args.stack.now)
    (made_in c.args.stack.now) (state_of c.args.m.now) _ (held c.args.m.now) (rest c.push.new.self)
    (made_in c.push.new.self) c.push.new.self.stands
    (arguments-drop_all c.args.call.args.now.items c.args.next (omega arith)) c.in_ok-push.ensures.rest
    c.in_ok-push.ensures.made c.in_ok-push.ensures.stands)
