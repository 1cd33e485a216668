-- A function of one number gives what its name means.
use Rattle.std.proofs.Common.{ℤ, Result, Ok, sym, ap, ◌∙◌}
use Rattle.scad_value.specs.Datum.{Datum, number, element, no_elements}
use Rattle.scad_builtin.specs.declared.fault.BuiltinFault.{BuiltinFault}
use Rattle.scad_builtin.specs.declared.function.Function.{Function}
use Rattle.scad_builtin.specs.Builtin.{number_result, value_of}
use Rattle.scad_builtin.proofs.dispatch.of_number.Goals as goal

abbrev given : ℤ → Result Datum BuiltinFault
given z = Ok (number z)

abbrev of : ℤ → Function → Result Datum BuiltinFault
of a function = value_of function (element (number a) no_elements)

pub returns-in-Abs-clause-value : goal.returns-in-Abs-clause-value
returns-in-Abs-clause-value c = ap given c.size.ensures ∙ sym (ap (of c.args.a) c.in-Abs.is)

pub returns-in-Sign-clause-value : goal.returns-in-Sign-clause-value
returns-in-Sign-clause-value c = ap given c.sign.ensures ∙ sym (ap (of c.args.a) c.in-Sign.is)

pub returns-in-Floor-clause-value : goal.returns-in-Floor-clause-value
returns-in-Floor-clause-value c = ap given c.floor.ensures ∙ sym (ap (of c.args.a) c.in-Floor.is)

pub returns-in-Ceil-clause-value : goal.returns-in-Ceil-clause-value
returns-in-Ceil-clause-value c = ap given c.ceil.ensures ∙ sym (ap (of c.args.a) c.in-Ceil.is)

pub returns-in-Round-clause-value : goal.returns-in-Round-clause-value
returns-in-Round-clause-value c = ap given c.round.ensures ∙ sym (ap (of c.args.a) c.in-Round.is)

pub returns-in-Sin-clause-value : goal.returns-in-Sin-clause-value
returns-in-Sin-clause-value c = ap given c.sine.ensures ∙ sym (ap (of c.args.a) c.in-Sin.is)

pub returns-in-Cos-clause-value : goal.returns-in-Cos-clause-value
returns-in-Cos-clause-value c = ap given c.cosine.ensures ∙ sym (ap (of c.args.a) c.in-Cos.is)

pub returns-in-Sqrt-clause-value : goal.returns-in-Sqrt-clause-value
returns-in-Sqrt-clause-value c = ap number_result c.root.ensures.value ∙ sym (ap (of c.args.a) c.in-Sqrt.is)

pub returns-in-Tan-clause-value : goal.returns-in-Tan-clause-value
returns-in-Tan-clause-value c = ap number_result c.tangent.ensures.value ∙ sym (ap (of c.args.a) c.in-Tan.is)
