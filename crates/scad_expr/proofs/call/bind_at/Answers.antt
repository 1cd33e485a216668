use Rattle.std.proofs.Common.{List, map, option_map, sym, ap, ap₂, ◌∙◌, arith}
use Rattle.std.proofs.lemmas.Result.{err_from_is_err_and}
use Rattle.std.specs.Vec.Iter.{into_iter_items}
use Rattle.scad_ast.specs.Scope.{parameter}
use Rattle.scad_ast.specs.View.{arguments}
use Rattle.scad_value.specs.View.{datum_of, data_in}
use Rattle.scad_scope.specs.FrameStore.{env_at, envs}
use Rattle.scad_scope.specs.View.{children_stored}
use Rattle.std.specs.Borrow.{Bor}
use Rattle.scad_ast.specs.declared.statement.Param.{Param}
use Rattle.scad_machine.specs.Machine.{held, along_in, state_of}
use Rattle.scad_stack.specs.Meaning.{meaning}
use Rattle.scad_machine.specs.OpenFrames.{bound_in}
use Rattle.scad_machine.specs.State.{gives}
use Rattle.scad_machine.proofs.OpenFrames.{opened-bound, opened-again, call-done}
use Rattle.scad_stack.proofs.Loops.{nothing-left, call-goes, call-opened, call-stops, call-begins, defaulted-end, same-state}
use Rattle.scad_expr.proofs.call.bind_at.Goals as goal

pub missing-init : goal.missing-init
missing-init c = (
  call-begins (meaning c.args.depth) (env_at (envs (held c.args.m.now).frames) c.args.call.callee.home)
      (along_in (held c.args.m.now)) c.args.call.callee.params.now.items (arguments c.args.call.args.now) (data_in c.args.found)
      (map (λ p. parameter p.now) (into_iter_items c.into_iter-param-iterator.result))
      (bound_in (held c.call.new.self))
      (state_of c.args.m.now) (state_of c.call.new.self)
      (ap (λ (l : List (Bor Param)). map (λ p. parameter p.now) l)
      c.into_iter-param-iterator.ensures.into_iter_gives.0
      ∙ c.in_ok-missing.ensures.missing)
      (opened-bound _ _ _ _ _ _ c.in_ok-missing.ensures.held)
      (same-state _ _ _ _ c.in_ok-missing.ensures.does),
  opened-again _ _ _ _ _ _ c.in_ok-missing.ensures.held,
)

pub missing-preserved : goal.missing-preserved
missing-preserved c = (
  call-goes (meaning c.args.depth) (option_map children_stored c.args.call.kept) c.args.call.callee.home (held c.args.m.now) c.requires
      (held c.missing.m) c.missing.invariant.1 (parameter c.in-Some.param.now)
      (map (λ p. parameter p.now) (into_iter_items c.missing.param-iterator))
      (map (λ p. parameter p.now) (into_iter_items c.next.new.self))
      (ap (λ (l : List (Bor Param)). map (λ p. parameter p.now) l) c.in-Some.ensures.steps.0) (state_of c.missing.m) _
      c.missing.invariant.0 (datum_of c.in_ok-value.value) (state_of c.default_of.new.m) (state_of c.set.new.self)
      c.in_ok-value.ensures.does (held c.default_of.new.m) (held c.set.new.self) c.in_ok-value.ensures.kept
      c.as_slice.result.now c.as_slice.ensures c.in_ok-set.ensures.held (same-state _ _ _ _ c.in_ok-set.ensures.does),
  call-opened (meaning c.args.depth) (option_map children_stored c.args.call.kept) c.args.call.callee.home (held c.args.m.now) c.requires
      (held c.missing.m) c.missing.invariant.1 (parameter c.in-Some.param.now)
      (map (λ p. parameter p.now) (into_iter_items c.missing.param-iterator))
      (map (λ p. parameter p.now) (into_iter_items c.next.new.self))
      (ap (λ (l : List (Bor Param)). map (λ p. parameter p.now) l) c.in-Some.ensures.steps.0) (state_of c.missing.m) _
      c.missing.invariant.0 (datum_of c.in_ok-value.value) (state_of c.default_of.new.m) (state_of c.set.new.self)
      c.in_ok-value.ensures.does (held c.default_of.new.m) (held c.set.new.self) c.in_ok-value.ensures.kept
      c.as_slice.result.now c.as_slice.ensures c.in_ok-set.ensures.held (same-state _ _ _ _ c.in_ok-set.ensures.does),
)

pub returns-clause-along : goal.returns-clause-along
returns-clause-along c = (call-done (option_map children_stored c.args.call.kept) c.args.call.callee.home
    c.in_ok-missing.field-0.inner c.in_ok-missing.field-0.back (held c.missing.m) (held c.go-home.new.self)
    (held c.args.m.now) c.missing.invariant.1 c.go-home.ensures.held c.in_ok-missing.ensures.inner
    c.in_ok-missing.ensures.back).3

pub returns-clause-back : goal.returns-clause-back
returns-clause-back c = (call-done (option_map children_stored c.args.call.kept) c.args.call.callee.home
    c.in_ok-missing.field-0.inner c.in_ok-missing.field-0.back (held c.missing.m) (held c.go-home.new.self)
    (held c.args.m.now) c.missing.invariant.1 c.go-home.ensures.held c.in_ok-missing.ensures.inner
    c.in_ok-missing.ensures.back).4

pub returns-clause-does : goal.returns-clause-does
returns-clause-does c =
    sym c.missing.invariant.0
    ∙ defaulted-end (meaning c.args.depth) (env_at (envs (held c.args.m.now).frames) c.args.call.callee.home)
    (along_in (held c.args.m.now)) (map (λ p. parameter p.now) (into_iter_items c.missing.param-iterator))
    (bound_in (held c.missing.m)) (state_of c.missing.m)
    (ap (λ (l : List (Bor Param)). map (λ p. parameter p.now) l)
    (nothing-left (into_iter_items c.missing.param-iterator) (omega (arith, c.in-None.ensures.steps))))
    ∙ ap₂ gives (call-done (option_map children_stored c.args.call.kept) c.args.call.callee.home c.in_ok-missing.field-0.inner
    c.in_ok-missing.field-0.back (held c.missing.m) (held c.go-home.new.self) (held c.args.m.now)
    c.missing.invariant.1 c.go-home.ensures.held c.in_ok-missing.ensures.inner c.in_ok-missing.ensures.back).0
    (sym c.go-home.ensures.same)

pub returns-clause-env : goal.returns-clause-env
returns-clause-env c = (call-done (option_map children_stored c.args.call.kept) c.args.call.callee.home
    c.in_ok-missing.field-0.inner c.in_ok-missing.field-0.back (held c.missing.m) (held c.go-home.new.self)
    (held c.args.m.now) c.missing.invariant.1 c.go-home.ensures.held c.in_ok-missing.ensures.inner
    c.in_ok-missing.ensures.back).2

pub returns-clause-opened : goal.returns-clause-opened
returns-clause-opened c = (call-done (option_map children_stored c.args.call.kept) c.args.call.callee.home
    c.in_ok-missing.field-0.inner c.in_ok-missing.field-0.back (held c.missing.m) (held c.go-home.new.self)
    (held c.args.m.now) c.missing.invariant.1 c.go-home.ensures.held c.in_ok-missing.ensures.inner
    c.in_ok-missing.ensures.back).1

pub returns-in_err-value-clause-does : goal.returns-in_err-value-clause-does
returns-in_err-value-clause-does c =
    let p = err_from_is_err_and c.from_residual-in_err-value.result c.from_residual-in_err-value.ensures.1 in
    rw (p.1, p.2) (λ some. call-stops (meaning c.args.depth) (option_map children_stored c.args.call.kept) c.args.call.callee.home
    (held c.args.m.now) c.requires (held c.missing.m) c.missing.invariant.1 (parameter c.in-Some.param.now)
    (map (λ p. parameter p.now) (into_iter_items c.missing.param-iterator))
    (map (λ p. parameter p.now) (into_iter_items c.next.new.self))
    (ap (λ (l : List (Bor Param)). map (λ p. parameter p.now) l) c.in-Some.ensures.steps.0) (state_of c.missing.m) _
    c.missing.invariant.0 _ _ (c.in_err-value.ensures.does some))
