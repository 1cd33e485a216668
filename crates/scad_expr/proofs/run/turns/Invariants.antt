use Rattle.std.proofs.Common.{◌≡◌}
use Rattle.scad_machine.specs.Machine.{held, state_of}
use Rattle.scad_stack.specs.Stack.{rest, made_in, goes_on, size}
use Rattle.scad_expr.proofs.run.turns.Given as goal

abbrev pub invariant-turns : goal.invariant-turns
invariant-turns l =
    goes_on l.focus (rest l.stack) (held l.m) (made_in l.stack) (state_of l.m)
    ≡ goes_on l.fn.first (rest l.fn.stack) (held l.fn.m) (made_in l.fn.stack) (state_of l.fn.m)

abbrev pub decreases-turns : goal.decreases-turns
decreases-turns l = size l.focus l.stack l.m
