-- What is at work and what follows it is what the whole was.
use Rattle.std.proofs.Common.{◌≡◌}
use Rattle.scad_expr.specs.Machine.{held, state_of}
use Rattle.scad_members.specs.Stack.{rest, made_in, goes_on}
use Rattle.scad_inst.proofs.run.run.Given as goal

abbrev pub invariant-turns : goal.invariant-turns
invariant-turns l =
    goes_on l.focus (rest l.stack) l.stack.stands (held l.m) (made_in l.stack) (state_of l.m)
    ≡ goes_on l.fn.first (rest l.fn.stack) l.fn.stack.stands (held l.fn.m) (made_in l.fn.stack) (state_of l.fn.m)
