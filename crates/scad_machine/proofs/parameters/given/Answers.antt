use Rattle.std.proofs.Common.{◌+◌, drop, ap, ap₂, sym, ◌∙◌, arith}
use Rattle.std.specs.Vec.Iter.{into_iter_items}
use Rattle.scad_ast.specs.View.{arguments}
use Rattle.scad_machine.specs.View.{values_in}
use Rattle.scad_machine.specs.Arguments.{given, given_from}
use Rattle.scad_machine.specs.Parameters.{parameter_names, unnamed_before_next, with_argument}
use Rattle.scad_value.specs.View.{datum_of, data_of}
use Rattle.scad_machine.proofs.Giving.{given-end, given-next, given-past, nothing-left, one-more_at_most}
use Rattle.scad_machine.proofs.parameters.given.Goals as goal

pub returns : goal.returns
returns c =
    let end = given-end (parameter_names c.args.params.now) c.values.unnamed
    (arguments (drop c.values.at c.args.args.now)) (data_of (into_iter_items c.values.value-iterator))
    (values_in c.values.got)
    (ap data_of (nothing-left (into_iter_items c.values.value-iterator) (omega (arith, c.in-None.ensures.steps)))) in
    sym end ∙ c.values.invariant.0

pub values-preserved : goal.values-preserved
values-preserved c =
    let names = parameter_names c.args.params.now in
    let arg = c.index-args-at.result in
    let i = c.values.unnamed in
    let left = arguments (drop (c.values.at + 1) c.args.args.now) in
    let more = data_of (into_iter_items c.next.new.self) in
    let gave = c.in_ok-give.ensures ∙ ap (λ ns. with_argument ns i arg.name (datum_of c.in-Some.value)
    (values_in c.values.got)) c.values.invariant.3 in
    let count = c.unnamed_before_next-unnamed.ensures in (
      ap (λ n. given_from names n left more (values_in c.give.new.got)) count
          ∙ ap (given_from names (unnamed_before_next arg.name i) left more) gave
          ∙ sym (given-next names i c.args.args.now c.values.at arg (datum_of c.in-Some.value) more (values_in c.values.got)
          (omega (arith, c.if-at-args.false)) c.index-args-at.is)
          ∙ sym (ap (λ l. given_from names i (arguments (drop c.values.at c.args.args.now)) (data_of l)
          (values_in c.values.got)) c.in-Some.ensures.steps.0)
          ∙ c.values.invariant.0,
      one-more_at_most arg.name i _ c.values.at count c.values.invariant.1,
      omega (arith, c.if-at-args.false),
      c.values.invariant.3,
    )

pub values-init : goal.values-init
unfolding given
values-init c = (
  ap₂ (given_from (parameter_names c.args.params.now) 0 (arguments c.args.args.now))
      (ap data_of c.into_iter-value-iterator.ensures.into_iter_gives.0) c.new-got.ensures,
  omega arith,
  omega arith,
  c.in_ok-names.ensures,
)

pub returns-then-at-args : goal.returns-then-at-args
returns-then-at-args c =
    sym (given-past (parameter_names c.args.params.now) c.values.unnamed c.args.args.now c.values.at
    (data_of (into_iter_items c.values.value-iterator)) (values_in c.values.got) c.if-at-args.true)
    ∙ c.values.invariant.0
