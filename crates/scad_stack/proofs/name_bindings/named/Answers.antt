-- What is left of the arguments has the same first name, and that stands at its head or behind it.
use Rattle.std.proofs.Common.{◌≡◌, ◌<◌, ◌-◌, List, length, get_or, take, drop, Some, sym, ap, ◌∙◌, arith}
use Rattle.std.proofs.lemmas.List.{take_rest}
use Rattle.scad_ast.specs.declared.expression.Arg.{Arg}
use Rattle.scad_ast.specs.Tree.{argument}
use Rattle.scad_ast.specs.View.{expression_of, arguments}
use Rattle.scad_value.proofs.Lists.{arguments-drop, arguments-drop_all}
use Rattle.scad_stack.specs.Pieces.{named_of}
use Rattle.scad_stack.proofs.name_bindings.named.Goals as goal

first-and-more : (all : List Arg) (a : Arg) → 0 < length all → a ≡ get_or all 0 a
    → arguments all ≡ argument a.name (expression_of a.value) (arguments (take (length all - 1) (drop 1 all)))
first-and-more all a there at =
    arguments-drop all 0 a there at
    ∙ ap (λ (l : List Arg). argument a.name (expression_of a.value) (arguments l)) (sym (take_rest all 1))

pub names-preserved : goal.names-preserved
names-preserved c =
    let all = c.names.rest.now in
    let a = c.first-item.result in
    let more = arguments (take (length all - 1) (drop 1 all)) in
    ap named_of (sym (first-and-more all a (omega (arith, c.in-len1-up.len_at_least)) c.first-item.is
    ∙ ap (λ n. argument n (expression_of a.value) more) c.in-None.is)) ∙ c.names.invariant

pub returns-in-Some-clause-from : goal.returns-in-Some-clause-from
returns-in-Some-clause-from c =
    let all = c.names.rest.now in
    let a = c.first-item.result in
    let more = arguments (take (length all - 1) (drop 1 all)) in
    first-and-more all a (omega (arith, c.in-len1-up.len_at_least)) c.first-item.is
    ∙ ap (λ n. argument n (expression_of a.value) more) (c.in-Some.is ∙ ap Some (sym c.as_slice.ensures))

pub returns-in-Some-clause-first : goal.returns-in-Some-clause-first
returns-in-Some-clause-first c = sym c.names.invariant ∙ ap named_of (returns-in-Some-clause-from c)

pub returns-in_default-clause-first : goal.returns-in_default-clause-first
returns-in_default-clause-first c =
    sym c.names.invariant
    ∙ ap named_of (arguments-drop_all c.names.rest.now 0 (omega (arith, c.in_default.len_below)))
