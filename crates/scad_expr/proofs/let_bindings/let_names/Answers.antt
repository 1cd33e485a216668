-- The frames that are opened are empty, and what is bound in them lies over the frames before.
use Rattle.std.proofs.Common.{◌≡◌, ℕ, List, sym, ap, ap₂, ◌∙◌}
use Rattle.std.proofs.lemmas.Result.{err_from_is_err_and}
use Rattle.scad_ast.specs.declared.expression.Arg.{Arg}
use Rattle.scad_ast.specs.View.{arguments}
use Rattle.scad_machine.specs.Machine.{Held, held, env_in, along_in, state_of}
use Rattle.scad_machine.specs.OpenFrames.{bound_in, outer}
use Rattle.scad_machine.specs.State.{State}
use Rattle.scad_machine.specs.Variables.{Bound, empty, within}
use Rattle.scad_machine.proofs.OpenFrames.{inner-env, inner-along, left-outer}
use Rattle.scad_stack.specs.Meaning.{meaning, bound_in_order}
use Rattle.scad_stack.proofs.Loops.{same-state}
use Rattle.scad_expr.proofs.let_bindings.let_names.Goals as goal

in_opened : (d n : ℕ) (args now : List Arg) (h o : Held) (s t : State)
    → outer h ≡ o → bound_in h ≡ empty → s ≡ t → n ≡ d → now ≡ args
    → bound_in_order (meaning d) (env_in o) (along_in o) (arguments args) empty s
    ≡ bound_in_order (meaning n) (env_in (outer h)) (along_in (outer h)) (arguments now) (bound_in h) t
in_opened d n args now h o s t out none same deep read =
    ap₂ (λ (k : ℕ) (l : List Arg). bound_in_order (meaning k) (env_in o) (along_in o) (arguments l) empty s) (sym deep)
    (sym read)
    ∙ ap (λ (x : Held). bound_in_order (meaning n) (env_in x) (along_in x) (arguments now) empty s) (sym out)
    ∙ ap (λ (b : Bound). bound_in_order (meaning n) (env_in (outer h)) (along_in (outer h)) (arguments now) b s)
    (sym none)
    ∙ ap (bound_in_order (meaning n) (env_in (outer h)) (along_in (outer h)) (arguments now) (bound_in h)) same

pub set_names-requires : goal.set_names-requires
set_names-requires c = c.in_ok-back.ensures.inner

pub returns-clause-does : goal.returns-clause-does
returns-clause-does c =
    in_opened (held c.args.machine.now).depth c.depth-depth.result c.args.args.now.items c.deref.result.now
    (held c.open.new.self) (held c.args.machine.now)
    (state_of c.args.machine.now) (state_of c.open.new.self) c.in_ok-back.ensures.outer c.in_ok-back.ensures.bound
    (same-state _ _ _ _ c.in_ok-back.ensures.does) c.depth-depth.ensures c.deref.ensures.value
    ∙ c.in_ok-set_names.ensures.does

pub returns-in_err-set_names-clause-does : goal.returns-in_err-set_names-clause-does
returns-in_err-set_names-clause-does c =
    let p = err_from_is_err_and c.from_residual-in_err-set_names.result c.from_residual-in_err-set_names.ensures.1 in
    rw (p.1, p.2) (λ some.
    in_opened (held c.args.machine.now).depth c.depth-depth.result c.args.args.now.items c.deref.result.now
    (held c.open.new.self) (held c.args.machine.now)
    (state_of c.args.machine.now) (state_of c.open.new.self) c.in_ok-back.ensures.outer c.in_ok-back.ensures.bound
    (same-state _ _ _ _ c.in_ok-back.ensures.does) c.depth-depth.ensures c.deref.ensures.value
    ∙ c.in_err-set_names.ensures.does some)

pub returns-clause-env : goal.returns-clause-env
returns-clause-env c =
    let h = held c.set_names.new.m in
    inner-env h c.in_ok-set_names.ensures.inner
    ∙ ap (λ (o : Held). within (env_in o) (bound_in h).names)
    (c.in_ok-set_names.ensures.outer ∙ c.in_ok-back.ensures.outer)

pub returns-clause-along : goal.returns-clause-along
returns-clause-along c =
    let h = held c.set_names.new.m in
    inner-along h c.in_ok-set_names.ensures.inner
    ∙ ap (λ (o : Held). within (along_in o) (bound_in h).dollars)
    (c.in_ok-set_names.ensures.outer ∙ c.in_ok-back.ensures.outer)

pub returns-clause-back : goal.returns-clause-back
returns-clause-back c =
    left-outer c.in_ok-back.back (held c.set_names.new.m) (held c.args.machine.now)
    (c.in_ok-set_names.ensures.outer ∙ c.in_ok-back.ensures.outer) c.in_ok-back.ensures.back
