use Rattle.std.proofs.Common.{◌≡◌, List, map, drop, Some, sym, ap, ◌∙◌}
use Rattle.std.specs.Borrow.{Bor}
use Rattle.scad_ast.specs.declared.statement.Param.{Param}
use Rattle.scad_ast.specs.Scope.{parameter}
use Rattle.scad_ast.specs.View.{expression_of}
use Rattle.scad_machine.specs.Machine.{Held, held, env_in, along_in, state_of}
use Rattle.scad_machine.specs.OpenFrames.{set_in_last}
use Rattle.scad_machine.specs.State.{State, Action, and_then}
use Rattle.scad_stack.specs.Meaning.{meaning}
use Rattle.scad_stack.specs.Stack.{Whole, fills, to_fill, entered, rest, made_in}
use Rattle.scad_stack.proofs.Loops.{same-state}
use Rattle.scad_stack.proofs.defaults.fill.Goals as goal

pub returns-in-Ok-Some-clause-goes : goal.returns-in-Ok-Some-clause-goes
unfolding entered
returns-in-Ok-Some-clause-goes c = λ o is.
    let opening = c.args.opening in
    let below = meaning opening.depth in
    let k : Held → Action Whole = entered opening (rest c.args.stack.now) (made_in c.args.stack.now) in
    let w = c.in-Ok-Some.wanted in
    let h = held c.next_default.new.m in
    let t = state_of c.next_default.new.m in
    let some : c.in-Ok-Some.field-0 ≡ Some w = cc in
    let found = rw some at (c.in-Ok-Some.ensures.found below k t) in
    c.wait.ensures.goes h t o (is
    ∙ ap (λ (u : State). fills below (to_fill opening) k (held c.args.m.now) u)
    (same-state _ _ _ _ c.in-Ok-Some.ensures.does)
    ∙ ap (λ (l : List (Bor Param)). fills below (map (λ (p : Bor Param). parameter p.now) (drop opening.next l)) k
    (held c.args.m.now) t) (sym c.deref.ensures.value)
    ∙ found
    ∙ ap (λ (l : List (Bor Param)). and_then (below.value (env_in h) (along_in h) (expression_of w.value.now) t)
    (λ d. fills below (map (λ (p : Bor Param). parameter p.now) (drop w.next l)) k (set_in_last w.name.now d h)))
    c.deref.ensures.value)
