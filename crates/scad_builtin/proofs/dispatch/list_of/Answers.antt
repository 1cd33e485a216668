-- A string or a vector is what the function's name means.
use Rattle.std.proofs.Common.{Result, Ok, sym, ap, ◌∙◌}
use Rattle.std.proofs.lemmas.Result.{IfOk-weaker, IfErr-weaker}
use Rattle.scad_value.specs.Datum.{Datum}
use Rattle.scad_value.specs.View.{elements}
use Rattle.scad_builtin.specs.declared.fault.BuiltinFault.{BuiltinFault}
use Rattle.scad_builtin.specs.declared.function.Function.{Function}
use Rattle.scad_builtin.specs.Builtin.{value_of}
use Rattle.scad_builtin.proofs.dispatch.list_of.Goals as goal

abbrev given : Datum → Result Datum BuiltinFault
given d = Ok d

pub returns-in-Concat-clause-ok : goal.returns-in-Concat-clause-ok
returns-in-Concat-clause-ok c =
    IfOk-weaker c.concat.result _ _ (λ v is. ap (λ (f : Function). value_of f (elements c.args.args.now)) c.in-Concat.is
    ∙ ap given (sym is)) c.concat.ensures.ok

pub returns-in-Concat-clause-err : goal.returns-in-Concat-clause-err
returns-in-Concat-clause-err c =
    IfErr-weaker c.concat.result _ _ (λ e memory some. absurd (some memory)) c.concat.ensures.err

pub returns-in-Str-clause-ok : goal.returns-in-Str-clause-ok
returns-in-Str-clause-ok c =
    IfOk-weaker c.text.result _ _ (λ v is. ap (λ (f : Function). value_of f (elements c.args.args.now)) c.in-Str.is
    ∙ ap given (sym is)) c.text.ensures.ok

pub returns-in-Str-clause-err : goal.returns-in-Str-clause-err
returns-in-Str-clause-err c =
    IfErr-weaker c.text.result _ _ (λ e memory some. absurd (some memory)) c.text.ensures.err

pub returns-in_ok-first_number-in-Chr-clause-err : goal.returns-in_ok-first_number-in-Chr-clause-err
returns-in_ok-first_number-in-Chr-clause-err c =
    IfErr-weaker c.string_of_code.result _ _ (λ e memory some. absurd (some memory)) c.string_of_code.ensures.err
