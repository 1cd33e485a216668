use Rattle.std.proofs.Common.{map, refl, sym, ◌∙◌}
use Rattle.scad_ast.specs.Scope.{parameter}
use Rattle.scad_ast.specs.View.{arguments}
use Rattle.scad_value.specs.View.{data_in}
use Rattle.scad_scope.specs.FrameStore.{envs}
use Rattle.scad_stack.specs.declared.frame.Opening.{Opening}
use Rattle.scad_machine.specs.Machine.{held, state_of}
use Rattle.scad_stack.specs.Stack.{rest, made_in}
use Rattle.scad_machine.specs.View.{found_at}
use Rattle.scad_stack.proofs.Loops.{same-state}
use Rattle.scad_stack.proofs.StackBegins.{own-begins}
use Rattle.scad_stack.proofs.calls.call_own.Goals as goal

pub returns-clause-goes : goal.returns-clause-goes
returns-clause-goes c = λ o is.
    let own = c.args.own in
    let h = held c.args.m.now in
    let got = c.in_ok-missing.field-0 in
    let opening : Opening = record {
      missing = got.missing;
      next = 0;
      body = own.function.body;
      inner = got.inner;
      back = got.back;
      depth = c.args.depth;
    } in
    c.fill.ensures.goes o (is ∙ own-begins c.args.depth own.home (found_at (envs h.frames) own)
    own.function.params.now.items
    (arguments c.args.args.now) (data_in c.args.found) opening (rest c.args.stack.now) (held c.call.new.self) h
    (made_in c.args.stack.now) (state_of c.args.m.now) (state_of c.call.new.self)
    (map (λ p. parameter p.now) got.missing.items) c.requires
    refl
    c.in_ok-missing.ensures.held c.in_ok-missing.ensures.missing c.in_ok-missing.ensures.inner
    c.in_ok-missing.ensures.back refl (sym (same-state _ _ _ _ c.in_ok-missing.ensures.does)))
