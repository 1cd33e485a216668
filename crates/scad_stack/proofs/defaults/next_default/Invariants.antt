use Rattle.std.proofs.Common.{◌≡◌, ◌-◌, length, map, drop}
use Rattle.scad_ast.specs.Scope.{parameter}
use Rattle.scad_machine.specs.Machine.{Held, held, state_of}
use Rattle.scad_stack.specs.Meaning.{Below}
use Rattle.scad_stack.specs.Stack.{Whole, fills}
use Rattle.scad_machine.specs.State.{State, Action}
use Rattle.scad_stack.proofs.defaults.next_default.Given as goal

abbrev pub invariant-missing : goal.invariant-missing
invariant-missing l =
    ((below : Below) (k : Held → Action Whole) (s : State)
    → fills below (map (λ p. parameter p.now) (drop l.i l.params)) k (held l.m) s
    ≡ fills below (map (λ p. parameter p.now) (drop l.from l.params)) k (held l.fn.m) s)
    × (state_of l.m ≡ state_of l.fn.m) × (l.m.steps_left ≡ l.fn.m.steps_left)

abbrev pub decreases-missing : goal.decreases-missing
decreases-missing l = length l.params - l.i
