-- What a function gives is what its group gives.
use Rattle.std.proofs.Common.{◌≡◌, Result, Ok, Err, sym, ap, ◌∙◌}
use Rattle.std.specs.Result.{IfOk, IfErr, result_map_both}
use Rattle.scad_value.specs.Datum.{Datum}
use Rattle.scad_value.specs.View.{datum_of, elements}
use Rattle.scad_value.specs.declared.value.Value.{Value}
use Rattle.scad_builtin.specs.declared.fault.BuiltinFault.{BuiltinFault}
use Rattle.scad_builtin.specs.declared.function.Function.{Function}
use Rattle.scad_builtin.specs.Answer.{Refuses}
use Rattle.scad_builtin.specs.Builtin.{value_of}
use Rattle.scad_builtin.specs.Fault.{and_then}
use Rattle.scad_builtin.specs.Vectors.{length_of}
use Rattle.scad_builtin.proofs.dispatch.value_of.Goals as goal

gives : (r : Result Value BuiltinFault) (rule : Result Datum BuiltinFault) → result_map_both datum_of (λ e. e) r ≡ rule
    → IfOk r (λ v. rule ≡ Ok (datum_of v))
gives (Ok v) rule is = sym is
gives (Err e) rule is = tt

refuses : (r : Result Value BuiltinFault) (rule : Result Datum BuiltinFault)
    → result_map_both datum_of (λ e. e) r ≡ rule → IfErr r (Refuses rule)
refuses (Ok v) rule is = tt
refuses (Err e) rule is = λ some. sym is

pub returns-in-Concat-clause-ok : goal.returns-in-Concat-clause-ok
returns-in-Concat-clause-ok c = c.list_of.ensures.ok

pub returns-in-Concat-clause-err : goal.returns-in-Concat-clause-err
returns-in-Concat-clause-err c = c.list_of.ensures.err

pub returns-in_ok-first-in-Len-clause-ok : goal.returns-in_ok-first-in-Len-clause-ok
returns-in_ok-first-in-Len-clause-ok c =
    gives c.length_of.result (value_of c.args.function (elements c.args.args.now)) (c.length_of.ensures.value
    ∙ sym (ap (λ (f : Function). value_of f (elements c.args.args.now)) c.in-Len.is
    ∙ ap (λ r. and_then r length_of) (sym c.in_ok-first-in-Len.ensures.value)))

pub returns-in_ok-first-in-Len-clause-err : goal.returns-in_ok-first-in-Len-clause-err
returns-in_ok-first-in-Len-clause-err c =
    refuses c.length_of.result (value_of c.args.function (elements c.args.args.now)) (c.length_of.ensures.value
    ∙ sym (ap (λ (f : Function). value_of f (elements c.args.args.now)) c.in-Len.is
    ∙ ap (λ r. and_then r length_of) (sym c.in_ok-first-in-Len.ensures.value)))
