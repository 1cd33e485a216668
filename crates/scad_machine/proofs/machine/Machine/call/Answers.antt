-- The frames that a call opens, with the names that are given it.
use Rattle.std.proofs.Common.{List, map, option_map, sym, ap, ap₂, ◌∙◌}
use Rattle.std.proofs.lemmas.Result.{err_from_is_err_and}
use Rattle.scad_ast.specs.declared.statement.Param.{Param}
use Rattle.scad_ast.specs.View.{arguments}
use Rattle.scad_ast.specs.Scope.{parameter}
use Rattle.scad_value.specs.View.{data_in}
use Rattle.scad_scope.specs.View.{children_stored}
use Rattle.scad_machine.specs.Arguments.{given}
use Rattle.scad_machine.specs.Parameters.{missing, parameter_names}
use Rattle.scad_machine.specs.Machine.{held}
use Rattle.scad_machine.specs.State.{gives}
use Rattle.scad_machine.specs.Variables.{empty}
use Rattle.scad_machine.proofs.OpenFrames.{call-opened, call-inner}
use Rattle.scad_machine.proofs.machine.Machine.call.Goals as goal

pub returns-clause-does : goal.returns-clause-does
returns-clause-does c =
    c.in_ok-back.ensures.does ∙ c.in_ok-set_all.ensures.does ∙ ap (gives tt) (sym c.go-inner.ensures.same)

pub returns-clause-steps : goal.returns-clause-steps
returns-clause-steps c = c.go-inner.ensures.steps ∙ c.in_ok-set_all.ensures.steps ∙ c.in_ok-back.ensures.steps

pub returns-clause-held : goal.returns-clause-held
returns-clause-held c =
    call-opened (option_map children_stored c.args.call.kept) c.args.call.callee.home _ _ empty (held c.args.self.now)
    (held c.enter.new.self) (held c.set_all.new.self) (held c.go-inner.new.self)
    (c.in_ok-got.ensures ∙ ap (λ (ps : List Param). given (parameter_names ps) (arguments c.args.call.args.now)
    (data_in c.args.found)) c.deref.ensures.value)
    c.in_ok-back.ensures.held c.in_ok-set_all.ensures.held c.go-inner.ensures.held

pub returns-clause-inner : goal.returns-clause-inner
returns-clause-inner c =
    call-inner (option_map children_stored c.args.call.kept) c.args.call.callee.home _ _ _ empty (held c.args.self.now)
    (held c.enter.new.self) (held c.set_all.new.self) c.in_ok-got.ensures c.in_ok-back.ensures.held
    c.in_ok-set_all.ensures.held c.go-inner.ensures.back

pub returns-clause-back : goal.returns-clause-back
returns-clause-back c = c.in_ok-back.ensures.back

pub returns-clause-missing : goal.returns-clause-missing
returns-clause-missing c =
    c.in_ok-missing.ensures
    ∙ ap₂ missing (c.in_ok-got.ensures ∙ ap (λ (ps : List Param). given (parameter_names ps)
    (arguments c.args.call.args.now) (data_in c.args.found)) c.deref.ensures.value)
    (ap (map parameter) c.deref-2.ensures.value)

pub returns-in_err-got-clause-does : goal.returns-in_err-got-clause-does
returns-in_err-got-clause-does c =
    let p = err_from_is_err_and c.from_residual.result c.from_residual.ensures.1 in
    rw p.1 (λ some. absurd (some p.2))

pub returns-in_err-missing-clause-does : goal.returns-in_err-missing-clause-does
returns-in_err-missing-clause-does c =
    let p = err_from_is_err_and c.from_residual-in_err-missing.result c.from_residual-in_err-missing.ensures.1 in
    rw p.1 (λ some. absurd (some p.2))

pub returns-in_err-back-clause-does : goal.returns-in_err-back-clause-does
returns-in_err-back-clause-does c =
    let p = err_from_is_err_and c.from_residual-in_err-back.result c.from_residual-in_err-back.ensures.1 in
    rw (p.1, p.2) (λ some. c.in_err-back.ensures.does some)

pub returns-in_err-set_all-clause-does : goal.returns-in_err-set_all-clause-does
returns-in_err-set_all-clause-does c =
    let p = err_from_is_err_and c.from_residual-in_err-set_all.result c.from_residual-in_err-set_all.ensures.1 in
    rw (p.1, p.2) (λ some. c.in_ok-back.ensures.does ∙ c.in_err-set_all.ensures.does some)
